-- Texts of messages, worked out.
use Rattle.std.specs.Prelude.{◌≡◌, ℕ, pos, [], ◌∷◌, Some, None, Ok, Err, codes}
use Rattle.cv_values.specs.Value.{int, string}
use Rattle.fn_tree.specs.Course.{gives, failed}
use Rattle.sync_msgs.specs.ClientTexts.{read_message}
use Rattle.sync_msgs.specs.Messages.{connects, modifies, requests, notes, adds, removes, transition, responds, refuses, shows, hides}
use Rattle.sync_msgs.specs.ServerTexts.{message_text}
use Rattle.sync_msgs.specs.declared.cause.Cause.TheVariants.{BadJson, UnknownType, BadField}
use Rattle.sync_msgs.specs.declared.cause.FieldName.TheVariants.{Type_, Args, RequestId, Modifications}
use Rattle.sync_msgs.specs.declared.version.Version.{Version}

abbrev version : (set ts : ℕ) → Version
version set ts = record { query_set = set; identity = 0; ts = ts }

abbrev pub AreWorkedServerTexts : Type 0
AreWorkedServerTexts =
    (message_text (transition (version 1 1) (version 1 3) (shows 0 (gives (int (pos 1))) ∷ shows 2 (failed (codes "no")) ∷ hides 4 ∷ [])) ≡
    codes "{\"endVersion\":{\"identity\":0,\"querySet\":1,\"ts\":\"AwAAAAAAAAA=\"},\"modifications\":[{\"journal\":null,\"logLines\":[],\"queryId\":0,\"type\":\"QueryUpdated\",\"value\":{\"$integer\":\"AQAAAAAAAAA=\"}},{\"errorMessage\":\"no\",\"journal\":null,\"logLines\":[],\"queryId\":2,\"type\":\"QueryFailed\"},{\"queryId\":4,\"type\":\"QueryRemoved\"}],\"startVersion\":{\"identity\":0,\"querySet\":1,\"ts\":\"AQAAAAAAAAA=\"},\"type\":\"Transition\"}")
    × (message_text (responds 1 3 (gives (string (codes "x")))) ≡ codes "{\"logLines\":[],\"requestId\":1,\"result\":\"x\",\"success\":true,\"ts\":\"AwAAAAAAAAA=\",\"type\":\"MutationResponse\"}")
    × (message_text (responds 1 3 (failed (codes "no"))) ≡ codes "{\"logLines\":[],\"requestId\":1,\"result\":\"no\",\"success\":false,\"type\":\"MutationResponse\"}")
    × (message_text (refuses (BadField Args)) ≡ codes "{\"error\":\"BadField args\",\"type\":\"FatalError\"}")

abbrev pub AreWorkedClientTexts : Type 0
AreWorkedClientTexts =
    (read_message (codes "{") ≡ Err BadJson)
    × (read_message (codes "{\"type\":\"Ping\"}") ≡ Err UnknownType)
    × (read_message (codes "{\"type\":1}") ≡ Err (BadField Type_))
    × (read_message (codes "{\"type\":\"Event\",\"x\":1}") ≡ Ok notes)
    × (read_message (codes "{\"type\":\"Connect\",\"sessionId\":\"00000000-0000-0000-0000-000000000001\"}") ≡ Ok (connects 1 None))
    × (read_message (codes "{\"type\":\"Connect\",\"sessionId\":\"00000000-0000-0000-0000-000000000001\",\"maxObservedTimestamp\":\"AQAAAAAAAAA=\"}") ≡ Ok (connects 1 (Some 1)))
    × (read_message (codes "{\"type\":\"Mutation\",\"requestId\":1,\"udfPath\":\"f\"}") ≡ Err (BadField Args))
    × (read_message (codes "{\"type\":\"Mutation\",\"requestId\":1,\"udfPath\":\"f\",\"args\":[{}]}") ≡ Ok (requests 1 (codes "f") []))
    × (read_message (codes "{\"type\":\"Mutation\",\"requestId\":4294967296,\"udfPath\":\"f\",\"args\":[{}]}") ≡ Err (BadField RequestId))
    × (read_message (codes "{\"type\":\"ModifyQuerySet\",\"baseVersion\":0,\"newVersion\":1,\"modifications\":[{\"type\":\"Add\",\"queryId\":3,\"udfPath\":\"q\",\"args\":[{}]},{\"type\":\"Remove\",\"queryId\":4}]}")
    ≡ Ok (modifies 0 1 (adds 3 (record { udf = codes "q"; args = [] }) ∷ removes 4 ∷ [])))
    × (read_message (codes "{\"type\":\"ModifyQuerySet\",\"baseVersion\":0,\"newVersion\":1,\"modifications\":[{\"type\":\"Set\"}]}") ≡ Err (BadField Modifications))
