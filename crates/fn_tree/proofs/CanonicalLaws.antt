-- The law of canonical text.
use Rattle.std.proofs.Common.{List, refl, sym, ap, subst, ◌∙◌}
use Rattle.fn_tree.specs.Canonical.{canonical_text}
use Rattle.fn_tree.specs.CanonicalLaws.{CanonicalReadsBack}
use Rattle.fn_tree.specs.Grammar.{Takes, rule}
use Rattle.fn_tree.specs.Language.{grammar}
use Rattle.fn_tree.specs.Lexemes.{lexemes_of}
use Rattle.fn_tree.specs.ParseTrees.{module_of}
use Rattle.fn_tree.specs.Placeless.{placeless}
use Rattle.fn_tree.specs.Rules.{whole_module}
use Rattle.fn_tree.specs.declared.lexeme.Lexeme.{Lexeme}
use Rattle.fn_tree.proofs.Alike.{nothing_left}
use Rattle.fn_tree.proofs.CanonicalTokens.{canonical_utf8, same_tokens, nests, reads}
use Rattle.fn_tree.proofs.SameModules.{same_module}

pub canonical_reads_back : CanonicalReadsBack
canonical_reads_back bytes m is short =
    let z = canonical_text m in
    let r = reads bytes m is in
    let whole = subst (λ (l : List Lexeme). Takes grammar (rule whole_module) r.parse (lexemes_of z).lexemes l) (nothing_left r.same_rest) r.takes in (
      module_of z r.parse,
      record { short = short; utf8 = canonical_utf8 bytes m is; readable = (same_tokens bytes m is).1; shallow = nests bytes m is; parse = r.parse; parses = whole; tree = refl },
      sym (same_module bytes z is.parses r.alike) ∙ ap placeless is.tree,
    )
