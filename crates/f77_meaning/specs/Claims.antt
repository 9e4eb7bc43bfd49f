-- What analyses claim of an execution. Systems of constraints are known here by what they say of numbers alone.
use Rattle.std.specs.Prelude.{◌≡◌, ◌⊎◌, ℕ, zero, suc, ◌+◌, ℤ, pos, Bool, true, false, ◌&&◌, List, [], ◌∷◌, Option, Some, None, if◌then◌else◌, bytes_eq}
use Rattle.f77_ast.specs.Store.{Int, Store}
use Rattle.f77_ast.specs.Places.{Place, Places, element_in}
use Rattle.f77_ast.specs.Calls.{nowhere}
use Rattle.f77_ast.specs.Claims.{number_in, Agrees}
use Rattle.f77_ast.specs.Executions.{AtEndOf}
use Rattle.f77_ast.specs.declared.symbol.Place.{Place as SymbolPlace}
use Rattle.f77_ast.specs.declared.symbol.Place.TheVariants as place
use Rattle.f77_ast.specs.declared.variable.Variable.{Variable}
use Rattle.f77_ast.specs.declared.variable.Variable.TheVariants as variable
use Rattle.f77_ast.specs.Symbols.{SymbolTree, number_from}
use Rattle.f77_ast.specs.Shared.{symbol_at}
use Rattle.call_graph.specs.declared.graph.Graph.{Graph}
use Rattle.call_graph.specs.declared.graph.Block.{Block}
use Rattle.f77_meaning.specs.Areas.{block, unit_at}
use Rattle.f77_meaning.specs.Modules.{Known, symbol_names, fixed}
use Rattle.f77_meaning.specs.Linked.{numbering}
use Rattle.f77_meaning.specs.Occurrences.{Occurrence, is_normal}
use Rattle.f77_meaning.specs.Accesses.{is_read, is_written, is_read_first, is_visible}

-- a number for each cell
abbrev pub Numbers : Type 0
Numbers = ℕ → ℤ

-- ---- preconditions and transformers

-- it holds of the numbers of the tracked cells at the arrival, whatever the others are
abbrev pub PreconditionHolds : (ℕ → Bool) → (Numbers → Type 0) → Occurrence → Type 0
PreconditionHolds tracked holds x = (n : Numbers) → Agrees tracked x.places x.start n → holds n

abbrev pub AtNormalEnd : Occurrence → (Store → Type 0) → Type 0
AtNormalEnd x P = AtEndOf x.ran (λ f z j. is_normal x.spot.statement f ≡ true → P z)

-- dummies and variables in COMMON; of these alone the transformer of an entry speaks
abbrev pub is_outer : SymbolPlace → Bool
is_outer (place.Local g o) = false
is_outer (place.Dummy k) = true
is_outer (place.Block b o) = true
is_outer (place.Constant v) = false

abbrev pub is_outer_symbol : Option SymbolTree → Bool
is_outer_symbol None = false
is_outer_symbol (Some s) = is_outer s.place

abbrev pub is_spoken_of : List SymbolTree → (ℕ → Bool) → ℕ → ℕ → Bool
is_spoken_of ss tracked zero c = tracked c && is_outer_symbol (symbol_at ss c)
is_spoken_of ss tracked (suc n) c = tracked c

-- at a normal end it holds of the numbers at the arrival and those of the changed cells there, and the other cells have the same
abbrev pub TransformerHolds : List SymbolTree → (ℕ → Bool) → (ℕ → Bool) → (Numbers → Numbers → Type 0) → Occurrence → Type 0
TransformerHolds ss tracked changed holds x =
    AtNormalEnd x (λ z.
    ((m n : Numbers) → Agrees (is_spoken_of ss tracked x.spot.statement) x.places x.start m → Agrees (λ c. is_spoken_of ss tracked x.spot.statement c && changed c) x.places z n → holds m n)
    × ((c : ℕ) → is_spoken_of ss tracked x.spot.statement c ≡ true → changed c ≡ false → number_in z x.places c ≡ number_in x.start x.places c))

-- ---- regions

-- elements of a variable: the lists of subscripts that a system describes with these numbers for cells, and whether it is exact
pub record Region : Type 1 where
  pub of : Variable
  pub is_exact : Bool
  pub describes : Numbers → List ℤ → Type 0

-- a block is an array of its units, from 1
abbrev pub size_in : List Block → List ℕ → ℕ
size_in [] x = 0
size_in (b ∷ bs) x = if bytes_eq b.name x then b.size else size_in bs x

abbrev pub block_place : List Known → Graph → List ℕ → Place
block_place ks g b = let n = size_in g.blocks b in record { first = unit_at (numbering ks g) (block b) 0; extent = n; tag = Int; dims = record { low = pos 1; high = Some (pos n) } ∷ [] }

abbrev pub fixed_by : List Known → Graph → Known → Option ℕ → Place
fixed_by ks g k None = nowhere
fixed_by ks g k (Some n) = fixed (numbering ks g) k n

-- a saved local of a module with this name
abbrev pub saved_place : List Known → Graph → List Known → List ℕ → List ℕ → Place
saved_place ks g [] m x = nowhere
saved_place ks g (k ∷ others) m x = if bytes_eq k.read.name m then fixed_by ks g k (number_from 1 (symbol_names k.symbols) x) else saved_place ks g others m x

abbrev pub place_of : List Known → Graph → Places → Variable → Place
place_of ks g at (variable.Own n) = at n
place_of ks g at (variable.Block b) = block_place ks g b
place_of ks g at (variable.Saved m x) = saved_place ks g ks m x

-- what is asked of the unit of the element with these subscripts, which is in bounds
abbrev pub OfElement : Place → Option ℕ → (ℕ → Type 0) → Type 0
OfElement p None P = ⊥
OfElement p (Some k) P = P (p.first + k)

abbrev pub ElementIs : Place → List ℤ → (ℕ → Type 0) → Type 0
ElementIs p subscripts P = OfElement p (element_in p subscripts) P

-- a unit is that of an element in bounds that the region describes at the arrival
abbrev pub LiesIn : List Known → Graph → (ℕ → Bool) → Occurrence → ℕ → Region → Type 0
LiesIn ks g tracked x u r =
    (subscripts : List ℤ) × ElementIs (place_of ks g x.places r.of) subscripts (λ v. v ≡ u) × ((n : Numbers) → Agrees tracked x.places x.start n → r.describes n subscripts)

-- regions of one kind, one after another: records of a higher type, for which std's lists have no place
pub data Regions : Type 1 where
  no_regions : Regions
  more_regions : Region → Regions → Regions

abbrev pub LiesInSome : List Known → Graph → (ℕ → Bool) → Occurrence → ℕ → Regions → Type 0
LiesInSome ks g tracked x u no_regions = ⊥
LiesInSome ks g tracked x u (more_regions r rs) = LiesIn ks g tracked x u r ⊎ LiesInSome ks g tracked x u rs

-- every visible unit of which the test holds lies in one of the regions
abbrev pub Contains : List Known → Graph → (ℕ → Bool) → Occurrence → (ℕ → Bool) → Regions → Type 0
Contains ks g tracked x test rs = (u : ℕ) → test u ≡ true → is_visible ks g x u ≡ true → LiesInSome ks g tracked x u rs

-- every list of subscripts that an exact region describes is that of an element in bounds, and the test holds of its unit
abbrev pub IsExact : List Known → Graph → (ℕ → Bool) → Occurrence → (ℕ → Bool) → Region → Type 0
IsExact ks g tracked x test r =
    r.is_exact ≡ true → (n : Numbers) → Agrees tracked x.places x.start n → (subscripts : List ℤ) → r.describes n subscripts →
    ElementIs (place_of ks g x.places r.of) subscripts (λ v. test v ≡ true)

abbrev pub AreExact : List Known → Graph → (ℕ → Bool) → Occurrence → (ℕ → Bool) → Regions → Type 0
AreExact ks g tracked x test no_regions = Unit {0}
AreExact ks g tracked x test (more_regions r rs) = IsExact ks g tracked x test r × AreExact ks g tracked x test rs

-- the units that an execution reads, those that it writes, those that it reads before it writes them, and those that it writes and
-- the rest of the run reads before it writes them
abbrev pub reads : Occurrence → ℕ → Bool
reads x u = is_read u x.ran.trace

abbrev pub writes : Occurrence → ℕ → Bool
writes x u = is_written u x.ran.trace

abbrev pub takes_in : Occurrence → ℕ → Bool
takes_in x u = is_read_first u x.ran.trace

abbrev pub gives_out : Occurrence → ℕ → Bool
gives_out x u = is_written u x.ran.trace && is_read_first u x.later

-- READ, WRITE and IN regions: all that is accessed so lies in them, and at a normal end each element of an exact one is accessed so
abbrev pub RegionsHold : List Known → Graph → (ℕ → Bool) → Occurrence → (ℕ → Bool) → Regions → Type 0
RegionsHold ks g tracked x test rs = Contains ks g tracked x test rs × AtNormalEnd x (λ z. AreExact ks g tracked x test rs)

abbrev pub ReadHolds : List Known → Graph → (ℕ → Bool) → Regions → Occurrence → Type 0
ReadHolds ks g tracked rs x = RegionsHold ks g tracked x (reads x) rs

abbrev pub WriteHolds : List Known → Graph → (ℕ → Bool) → Regions → Occurrence → Type 0
WriteHolds ks g tracked rs x = RegionsHold ks g tracked x (writes x) rs

abbrev pub InHolds : List Known → Graph → (ℕ → Bool) → Regions → Occurrence → Type 0
InHolds ks g tracked rs x = RegionsHold ks g tracked x (takes_in x) rs

-- OUT regions are never exact
abbrev pub OutHolds : List Known → Graph → (ℕ → Bool) → Regions → Occurrence → Type 0
OutHolds ks g tracked rs x = Contains ks g tracked x (gives_out x) rs
