-- Statements by themselves.
use Rattle.std.proofs.Common.{◌≡◌, ℕ, Bool, false, List, Result, Err, ap, append_assoc, append-nil}
use Rattle.std.specs.List.{AllZip}
use Rattle.std.proofs.lemmas.List.Elements.{same_from_all_zip}
use Rattle.std.proofs.lemmas.List.{map-append}
use Rattle.f77_parser.specs.declared.refusal.ParseRefusal.{ParseRefusal}
use Rattle.f77_parser.specs.declared.refusal.ParseRefusal.TheVariants.{At, Memory}
use Rattle.f77_parser.specs.Gives.{Refused, Gives, is_memory}
use Rattle.f77_parser.specs.Statements.{StatementTree, statement_tree, with_read}

-- a list whose elements are each copied is copied
pub copied_texts : (xs ys : List (List ℕ)) → AllZip (λ (x : List ℕ) (y : List ℕ). y ≡ x) xs ys → ys ≡ xs
copied_texts xs ys h = same_from_all_zip _ xs ys h (λ x y e. e)

pub ruleset copies = (copied_texts)

-- a statement that is refused is passed over
pub passed : (r : ParseRefusal) (read : Result StatementTree Refused) (ss : List StatementTree) → is_memory r ≡ false → Gives statement_tree (Err r) read → with_read read ss ≡ ss
passed (At line code keyword) read ss e h = ap (λ x. with_read x ss) h
passed Memory read ss e h = cc

pub ruleset passes = (map-append, append_assoc, append-nil, passed)
