-- Units of modules and CALLs that are not active: what begins without a value in them ends without one.
use Rattle.std.specs.Prelude.{◌≡◌, ◌⊎◌, ℕ, true, false, nat_eq, List, [], ◌∷◌, None}
use Rattle.std.specs.List.{list_any}
use Rattle.f77_ast.specs.Store.{Undefined, Content, Store}
use Rattle.f77_ast.specs.Places.{Variable, Names, Place, Places}
use Rattle.f77_ast.specs.Writes.{Locks}
use Rattle.f77_ast.specs.Calls.{Meaning, in_place}
use Rattle.f77_ast.specs.Plans.{Flow, Normal, Jump, Returned, Stopped, Plan}
use Rattle.f77_ast.specs.Executions.{run_of, AtEndOf}
use Rattle.f77_ast.specs.Programs.{Routine, called, meanings}
use Rattle.laws_interleavings.specs.Typed.{IsNoDummy}

abbrev pub HasNoValue : Store → ℕ → Type 0
HasNoValue s u = (s u).tag ≡ Undefined

-- after a STOP nothing is said
abbrev pub Ending : ℕ → Flow → Store → List Content → Type 0
Ending u Normal z i = HasNoValue z u
Ending u (Jump l) z i = HasNoValue z u
Ending u Returned z i = HasNoValue z u
Ending u Stopped z i = Unit {0}

-- where the unit has no value at the beginning it has none at the end
abbrev pub Cleared : ℕ → Plan → Type 0
Cleared u t = (s : Store) (i : List Content) → HasNoValue s u → AtEndOf (run_of t s i) (Ending u)

-- it is no unit of the place, unless it is locked
abbrev pub OffPlace : ℕ → Locks → Place → Type 0
OffPlace u locked p = locked u ≡ None → (in_place p u ≡ false) × (nat_eq p.first u ≡ false)

abbrev pub OffPlaces : ℕ → Locks → List Place → Type 0
OffPlaces u locked [] = Unit {0}
OffPlaces u locked (p ∷ ps) = OffPlace u locked p × OffPlaces u locked ps

-- no variable of the module is there
abbrev pub Off : ℕ → Locks → Names → Places → Type 0
Off u locked w at = (x : List ℕ) (v : ℕ) → w x ≡ Variable v → OffPlace u locked (at v)

-- a CALL does not end by a GO TO
abbrev pub IsNoJump : Flow → Type 0
IsNoJump Normal = Unit {0}
IsNoJump (Jump l) = ⊥
IsNoJump Returned = Unit {0}
IsNoJump Stopped = Unit {0}

abbrev pub EndsWell : Meaning → Type 0
EndsWell m = (ps : List Place) (locked : Locks) (s : Store) (i : List Content) → AtEndOf (run_of (m ps locked) s i) (λ f z j. IsNoJump f)

-- what is called leaves the unit without a value
abbrev pub MeaningCleared : ℕ → Meaning → Type 0
MeaningCleared u m = (ps : List Place) (locked : Locks) → OffPlaces u locked ps → Cleared u (m ps locked)

-- it is a unit of a local of the module that is not saved, or of none of its variables but dummies
abbrev pub IsApartFrom : ℕ → Routine → Type 0
IsApartFrom u r = (list_any (λ v. nat_eq v u) r.locals ≡ true) ⊎ ((x : List ℕ) (v : ℕ) → r.names x ≡ Variable v → IsNoDummy r.dummies v → (in_place (r.fixed v) u ≡ false) × (nat_eq (r.fixed v).first u ≡ false))

abbrev pub AllApart : ℕ → List Routine → Type 0
AllApart u [] = Unit {0}
AllApart u (r ∷ rs) = IsApartFrom u r × AllApart u rs

-- no CALL of one of the modules, or of one behind it, ends by a GO TO
abbrev pub AllEnd : ℕ → List Routine → Type 0
AllEnd turns [] = Unit {0}
AllEnd turns (r ∷ rs) = EndsWell (called r turns (meanings rs turns)) × ((x : List ℕ) → EndsWell (meanings rs turns x)) × AllEnd turns rs
