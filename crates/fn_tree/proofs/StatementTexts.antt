-- The canonical text of statements is that of their tokens, in order.
use Rattle.std.proofs.Common.{◌≡◌, ℕ, List, refl}
use Rattle.fn_tree.specs.Canonical.{stmt_text, stmts_text, block_text, else_text}
use Rattle.fn_tree.specs.Grammar.{Parse, Takes, Bound, seq, turns, rule, opt}
use Rattle.fn_tree.specs.Grammar.Takes.{one, nothing, both, left, right, stop, turn, call}
use Rattle.fn_tree.specs.Language.{grammar, word}
use Rattle.fn_tree.specs.ParseTrees.{statement_of, statements_of, block_of, else_of}
use Rattle.fn_tree.specs.Rules.{block, statement}
use Rattle.fn_tree.specs.declared.lexeme.Lexeme.{Lexeme}
use Rattle.fn_tree.specs.declared.lexeme.Mark.TheVariants.{OpenBrace, CloseBrace, OpenParen, CloseParen, Semicolon, Assign}
use Rattle.fn_tree.specs.declared.lexeme.Word.TheVariants.{Let, If, Else, For, In, Return, Throw}
use Rattle.fn_tree.proofs.TreeTexts.{parse_text, name_said, mark_said, word_said, spell2, spell3, spell4, spell5, two_pairs, pair_inside, expression_text}

module _ (s : List ℕ) where
  mutual
    pub statement_text : {a : Parse} {ts r : List Lexeme} → Takes grammar (rule statement) a ts r → stmt_text (statement_of s a) ≡ parse_text s a
    statement_text (call (left (call (both (one {c = w} h) (both (one {c = n} i) (both (one {c = q} j) (both t (one {c = e} k)))))))) =
        spell5 (word_said s Let w h) (name_said s n i) (mark_said s Assign q j) (expression_text s t) (mark_said s Semicolon e k)
    statement_text (call (right (left (call (both (one {c = w} h) (both (one {c = o} i) (both (both t (one {c = e} k)) (both b l)))))))) =
        two_pairs (word_said s If w h) (mark_said s OpenParen o i) (expression_text s t) (mark_said s CloseParen e k) (block_said b) (else_said l)
    statement_text (call (right (right (left (call (both (one {c = w} h) (both (one {c = o} i) (both (one {c = n} j) (both (one {c = q} z) (both (both t (one {c = e} k)) b)))))))))) =
        pair_inside (word_said s For w h) (mark_said s OpenParen o i) (name_said s n j) (word_said s In q z) (expression_text s t) (mark_said s CloseParen e k) (block_said b)
    statement_text (call (right (right (right (left (call (both (one {c = w} h) (both t (one {c = e} k))))))))) =
        spell3 (word_said s Return w h) (expression_text s t) (mark_said s Semicolon e k)
    statement_text (call (right (right (right (right (left (call (both (one {c = w} h) (both t (one {c = e} k)))))))))) =
        spell3 (word_said s Throw w h) (expression_text s t) (mark_said s Semicolon e k)
    statement_text (call (right (right (right (right (right (left (call (both (one {c = n} i) (both (one {c = q} j) (both t (one {c = e} k)))))))))))) =
        spell4 (name_said s n i) (mark_said s Assign q j) (expression_text s t) (mark_said s Semicolon e k)
    statement_text (call (right (right (right (right (right (right (call (both t (one {c = e} k)))))))))) =
        spell2 (expression_text s t) (mark_said s Semicolon e k)

    pub statements_text : {n : Bound} {a : Parse} {ts r : List Lexeme} → Takes grammar (turns n (rule statement)) a ts r → stmts_text (statements_of s a) ≡ parse_text s a
    statements_text stop = refl
    statements_text (turn l t u) = spell2 (statement_text t) (statements_text u)

    pub block_said : {a : Parse} {ts r : List Lexeme} → Takes grammar (rule block) a ts r → block_text (block_of s a) ≡ parse_text s a
    block_said (call (both (one {c = o} i) (both t (one {c = e} k)))) = spell3 (mark_said s OpenBrace o i) (statements_text t) (mark_said s CloseBrace e k)

    else_said : {a : Parse} {ts r : List Lexeme} → Takes grammar (opt (seq (word Else) (rule block))) a ts r → else_text (else_of s a) ≡ parse_text s a
    else_said (left (both (one {c = w} h) t)) = spell2 (word_said s Else w h) (block_said t)
    else_said (right nothing) = refl
