use Rattle.std.proofs.Common.{ℕ, List, [], ◌∷◌, string_bytes, sym, ap, ◌∙◌}
use Rattle.convexd.specs.declared.command.Command.TheVariants.{Check, Replay}
use Rattle.convexd.proofs.Commands.{one_word, some_words, no_words}
use Rattle.convexd.proofs.command.Command.of.Goals as goal

pub returns-in-len1-clause-some : goal.returns-in-len1-clause-some
returns-in-len1-clause-some c =
    let e = one_word string_bytes c.args.words.now c.word-item.result c.in-len1.len_at_least c.in-len1.len_below c.word-item.is in
    some_words c.named.result _ c.as_str.result.now (e ∙ ap (λ (w : List ℕ). w ∷ []) (sym c.as_str.ensures.value)) c.named.ensures.some

pub returns-in-len1-clause-none : goal.returns-in-len1-clause-none
returns-in-len1-clause-none c none =
    let e = one_word string_bytes c.args.words.now c.word-item.result c.in-len1.len_at_least c.in-len1.len_below c.word-item.is in
    let named = e ∙ ap (λ (w : List ℕ). w ∷ []) (sym c.as_str.ensures.value) in
    let differs = c.named.ensures.none none in
    (no_words Check _ c.as_str.result.now named differs.0, no_words Replay _ c.as_str.result.now named differs.1)
