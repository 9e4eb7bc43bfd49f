-- The lists, the labels and the GO TOs of a module without the places of its text: which lists contain each GO TO.
use Rattle.std.proofs.Common.{ℕ, ◌+◌, List, [], ◌∷◌, ◌++◌}
use Rattle.std.specs.Prelude.{Option, Some, None}
use Rattle.f77_structure.specs.declared.mark.Action.{Action}
use Rattle.f77_structure.specs.declared.mark.Action.TheVariants.{Goto, Return, Stop, Other}
use Rattle.f77_structure.specs.declared.blocks.Landing.{Landing}

-- a GO TO with the numbers of the lists that contain it
pub record Going : Type 0 where
  pub label : ℕ
  pub lists : List ℕ

-- the numbers of the open lists, the innermost first; how many lists began; the labels that stand; and the GO TOs
pub record Outline : Type 0 where
  pub within : List ℕ
  pub count : ℕ
  pub landings : List Landing
  pub goings : List Going

-- before the first statement only the list of the module itself is there
abbrev pub nothing_outlined : Outline
nothing_outlined = record { within = 0 ∷ []; count = 1; landings = []; goings = [] }

abbrev pub innermost : List ℕ → ℕ
innermost [] = 0
innermost (k ∷ ks) = k

abbrev pub outer : List ℕ → List ℕ
outer [] = []
outer (k ∷ ks) = ks

-- a labelled statement stands in the open list
abbrev pub lands : Option ℕ → Outline → Outline
lands None o = o
lands (Some l) o = record o { landings = o.landings ++ record { label = l; list = innermost o.within } ∷ [] }

abbrev pub goes : Action → Outline → Outline
goes (Goto l) o = record o { goings = o.goings ++ record { label = l; lists = o.within } ∷ [] }
goes Return o = o
goes Stop o = o
goes Other o = o

-- a list begins
abbrev pub begins : Outline → Outline
begins o = record o { within = o.count ∷ o.within; count = o.count + 1 }

-- the open list ends
abbrev pub leaves : Outline → Outline
leaves o = record o { within = outer o.within }
