-- The lines that tell replies, entries and the length of the log, without their line feeds.
use Rattle.std.specs.Prelude.{ℕ, ◌+◌, List, [], ◌∷◌, ◌++◌, codes, decimal}
use Rattle.serde_json.specs.Data as json
use Rattle.serde_json.specs.Written.{compact_text}
use Rattle.cv_json.specs.Json.{json_of}
use Rattle.fn_tree.specs.Course.{Reply, gives, failed}
use Rattle.fn_tree.specs.History.{Entry, History}
use Rattle.sync_msgs.specs.EntryTexts.{entry_text}

-- what a reply is told as
abbrev pub reply_json : Reply → List ℕ
reply_json (gives v) = codes "ok " ++ compact_text (json_of v)
reply_json (failed why) = codes "error " ++ compact_text (json.string why)

-- the line that tells a reply, with its entry's timestamp
abbrev pub reply_line : ℕ → Reply → List ℕ
reply_line ts reply = codes "reply " ++ (decimal ts ++ (codes " " ++ reply_json reply))

-- the line that tells an entry
abbrev pub entry_line : ℕ → Entry → List ℕ
entry_line ts e = codes "entry " ++ entry_text ts e

-- the lines that tell the entries after so many others
abbrev pub entry_lines : ℕ → History → List (List ℕ)
entry_lines n [] = []
entry_lines n (e ∷ h) = entry_line (n + 1) e ∷ entry_lines (n + 1) h

-- the line that tells the length of the log
abbrev pub length_line : ℕ → List ℕ
length_line n = codes "ts " ++ decimal n
