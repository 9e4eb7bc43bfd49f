-- A module that is read up to its END.
use Rattle.std.proofs.Common.{◌≡◌, ◌∙◌, ℕ, true, List, [], ◌∷◌, ◌++◌, Result, Ok, map, refl, ap}
use Rattle.std.specs.Prelude.{if◌then◌else◌}
use Rattle.f77_ast.specs.DeclTrees.{ParsedTree}
use Rattle.f77_parser.specs.Gives.{Refused, and_then}
use Rattle.f77_parser.specs.Statements.{StatementTree}
use Rattle.f77_structure.specs.Lists.{is_none_of}
use Rattle.f77_parser.specs.Ends.{ends_module}
use Rattle.f77_parser.specs.Modules.{closing_at, module_read, modules_from}

pub none_mapped : {A : Type 0} {B : Type 0} (f : A → B) (xs : List A) → is_none_of xs ≡ is_none_of (map f xs)
none_mapped f [] = refl
none_mapped f (x ∷ xs) = refl

pub module_ended : (closing : List (List ℕ)) (done : List ParsedTree) (begun : List StatementTree) (s : StatementTree) (ss : List StatementTree) (p : ParsedTree)
    → ends_module s.phrase ≡ true → module_read (closing_at (is_none_of ss) closing) (begun ++ s ∷ []) ≡ Ok p
    → modules_from closing done begun (s ∷ ss) ≡ modules_from closing (done ++ p ∷ []) [] ss
module_ended closing done begun s ss p e r =
    let go = λ (q : Result ParsedTree Refused). and_then q (λ p. modules_from closing (done ++ p ∷ []) [] ss) in
    ap (λ b. if b then go (module_read (closing_at (is_none_of ss) closing) (begun ++ s ∷ [])) else modules_from closing done (begun ++ s ∷ []) ss) e ∙ ap go r
