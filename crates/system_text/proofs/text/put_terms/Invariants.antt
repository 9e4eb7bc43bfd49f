use Rattle.std.proofs.Common.{◌≡◌, ◌++◌, ℕ, List, drop}
use Rattle.system_text.specs.SystemText.{term_texts, side_text, rest_text}
use Rattle.system_text.proofs.text.put_terms.Given as goal

abbrev pub invariant-loop-t : goal.invariant-loop-t
invariant-loop-t l = (rest : List (List ℕ)) → l.out.items ++ rest_text l.any (term_texts l.right l.names (drop l.t-index l.terms) ++ rest) ≡ l.fn.out.items ++ side_text (term_texts l.right l.names l.terms ++ rest)
