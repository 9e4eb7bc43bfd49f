-- The modules of a program have different names, and stand in the order of the graph.
use Rattle.std.proofs.Common.{◌≡◌, ◌⊎◌, inl, inr, ⊎_elim, ℕ, zero, suc, Bool, true, false, List, [], ◌∷◌, ◌++◌, map, Some, refl, sym, ap, ◌∙◌, subst, arith, true≢false}
use Rattle.std.specs.Prelude.{if◌then◌else◌, slice_get, bytes_eq}
use Rattle.std.proofs.lemmas.Slice.Eq.{bytes_eq-Decides}
use Rattle.f77_ast.specs.DeclTrees.{ParsedTree}
use Rattle.f77_ast.specs.Programs.{Routine}
use Rattle.f77_ast.specs.Symbols.{SymbolTree}
use Rattle.call_graph.specs.declared.graph.Graph.{Graph}
use Rattle.f77_meaning.specs.Modules.{Known, known_of}
use Rattle.f77_meaning.specs.Linked.{routine, named, subroutines_among, subroutines, main_of}
use Rattle.laws_programs.specs.Programs.{IsProgram}
use Rattle.laws_programs.specs.Storage.Programs.{IsLinked, known}
use Rattle.laws_programs.proofs.Storage.ModuleLaws.{known_module, names_tell_modules}
use Rattle.laws_analyses.proofs.MainLaws.{MainOf, main_from}
use Rattle.laws_analyses.proofs.Orders.{NotIn, Sorted, order_sorted}
use Rattle.laws_analyses.proofs.UnitLaws.{module_at}
use Rattle.laws_marks.specs.Inactive.{IsOfSome, IsInactive}
use Rattle.laws_marks.proofs.Apart.{linked}
use Rattle.laws_marks.proofs.Spots.{AllNamed}
use Rattle.laws_programs.proofs.Effects.Once.{NamesOnce, main_of_linked as some_main, fewer}
use Rattle.fx_lists.proofs.Texts.{same_name as same_bytes, unequal_texts}

-- ---- names in a list

-- a name is that of one of these
abbrev pub Named : List Routine → List ℕ → Type 0
Named [] y = ⊥
Named (r ∷ rs) y = (bytes_eq y r.name ≡ true) ⊎ Named rs y

-- each has a name of its own
abbrev pub Distinct : List Routine → Type 0
Distinct [] = Unit {0}
Distinct (r ∷ rs) = ((y : List ℕ) → Named rs y → bytes_eq y r.name ≡ false) × Distinct rs

pub all_named : (B : List ℕ → Type 0) (rs : List Routine) → ((y : List ℕ) → Named rs y → B y) → AllNamed B rs
all_named B [] h = tt
all_named B (r ∷ rs) h = (h r.name (inl (same_bytes r.name)), all_named B rs (λ y n. h y (inr n)))

named_parts : (rs ss : List Routine) (y : List ℕ) → Named (rs ++ ss) y → Named rs y ⊎ Named ss y
named_parts [] ss y n = inr n
named_parts (r ∷ rs) ss y n = ⊎_elim (λ a. inl (inl a)) (λ b. ⊎_elim (λ c. inl (inr c)) (λ c. inr c) (named_parts rs ss y b)) n

distinct_joined : (rs ss : List Routine) → Distinct rs → Distinct ss → ((y : List ℕ) → Named rs y → Named ss y → ⊥) → Distinct (rs ++ ss)
distinct_joined [] ss d e c = e
distinct_joined (r ∷ rs) ss d e c = (λ y n. ⊎_elim (d.0 y) (λ b. other y b (bytes_eq y r.name) refl) (named_parts rs ss y n), distinct_joined rs ss d.1 e (λ y a b. c y (inr a) b))
  where
    other : (y : List ℕ) → Named ss y → (b : Bool) → bytes_eq y r.name ≡ b → b ≡ false
    other y n true q = absurd (c y (inl q) n)
    other y n false q = refl

-- where a unit is inactive, and of none of the modules before these, it is so by these
pub later : (r : Routine) (rs : List Routine) (y : List ℕ) (u : ℕ) → bytes_eq y r.name ≡ false → IsInactive (r ∷ rs) y u → IsInactive rs y u
later r rs y u e h = ⊎_elim (λ a. absurd (true≢false (sym a.0 ∙ e))) (λ b. b.1) h

pub some_of : (rs : List Routine) (y : List ℕ) (u : ℕ) → IsInactive rs y u → IsOfSome rs u
some_of [] y u h = h
some_of (r ∷ rs) y u h = ⊎_elim (λ a. ⊎_elim (λ e. inl (inr e)) (λ s. inr s) a.1) (λ b. inr (some_of rs y u b.1)) h

-- ---- modules of a name

pub names_once : (ps : List ParsedTree) (sss : List (List SymbolTree)) (g : Graph) → IsLinked ps sss g → NamesOnce (known_of ps sss)
names_once ps sss g l i j k m e h n =
    let r = module_at ps sss i k e in
    let s = module_at ps sss j m h in
    names_tell_modules ps sss g l i j r.parsed s.parsed r.table s.table r.is_module s.is_module (ap (λ z. z.read.name) r.same ∙ n ∙ ap (λ z. z.read.name) (sym s.same))

-- a subroutine of the name
record FoundAt (ks : List Known) (y : List ℕ) : Type 0 where
  at : ℕ
  item : Known
  is_item : slice_get ks at ≡ Some item
  is_named : item.read.name ≡ y
  is_sub : item.read.main ≡ false

found_later : (k : Known) (ks : List Known) (y : List ℕ) → FoundAt ks y → FoundAt (k ∷ ks) y
found_later k ks y f = record { at = suc f.at; item = f.item; is_item = f.is_item; is_named = f.is_named; is_sub = f.is_sub }

module _ (all : List Known) (g : Graph) (x : List ℕ) where
  abbrev routines : List Known → List Routine
  routines ks = map (routine all g) (subroutines_among (named ks x))

  found : (ks : List Known) (y : List ℕ) → Named (map (routine all g) (subroutines_among (named ks x))) y → (y ≡ x) × FoundAt ks x
  found [] y n = absurd n
  found (k ∷ ks) y n = outer (bytes_eq k.read.name x) refl (λ m. let r = found ks y m in (r.0, found_later k ks x r.1)) n
    where
      inner : bytes_eq k.read.name x ≡ true → (c : Bool) → k.read.main ≡ c → (Named (map (routine all g) (subroutines_among (named ks x))) y → (y ≡ x) × FoundAt (k ∷ ks) x) →
          Named (map (routine all g) (if c then subroutines_among (named ks x) else k ∷ subroutines_among (named ks x))) y → (y ≡ x) × FoundAt (k ∷ ks) x
      inner e true q more m = more m
      inner e false q more m =
          ⊎_elim (λ a. let same = (bytes_eq-Decides k.read.name x).0 e in ((bytes_eq-Decides y k.read.name).0 a ∙ same, record { at = zero; item = k; is_item = refl; is_named = same; is_sub = q })) more m

      outer : (b : Bool) → bytes_eq k.read.name x ≡ b → (Named (map (routine all g) (subroutines_among (named ks x))) y → (y ≡ x) × FoundAt (k ∷ ks) x) → Named (map (routine all g) (subroutines_among (if b then k ∷ named ks x else named ks x))) y → (y ≡ x) × FoundAt (k ∷ ks) x
      outer true e more m = inner e k.read.main refl more m
      outer false e more m = more m

  one_distinct : (ks : List Known) → NamesOnce ks → Distinct (map (routine all g) (subroutines_among (named ks x)))
  one_distinct [] once = tt
  one_distinct (k ∷ ks) once = outer (bytes_eq k.read.name x) refl (one_distinct ks (fewer k ks once))
    where
      none : bytes_eq k.read.name x ≡ true → (y : List ℕ) → Named (map (routine all g) (subroutines_among (named ks x))) y → ⊥
      none e y n =
          let f = (found ks y n).1 in
          let z = once zero (suc f.at) k f.item refl f.is_item ((bytes_eq-Decides k.read.name x).0 e ∙ sym f.is_named) in
          omega (arith, z)

      inner : bytes_eq k.read.name x ≡ true → (c : Bool) → Distinct (map (routine all g) (subroutines_among (named ks x))) → Distinct (map (routine all g) (if c then subroutines_among (named ks x) else k ∷ subroutines_among (named ks x)))
      inner e true rest = rest
      inner e false rest = (λ y n. absurd (none e y n), rest)

      outer : (b : Bool) → bytes_eq k.read.name x ≡ b → Distinct (map (routine all g) (subroutines_among (named ks x))) → Distinct (map (routine all g) (subroutines_among (if b then k ∷ named ks x else named ks x)))
      outer true e rest = inner e k.read.main rest
      outer false e rest = rest

-- ---- the order

module _ (all : List Known) (g : Graph) where
  -- the names of the subroutines of an order are names of the order
  in_order : (xs : List (List ℕ)) (y : List ℕ) → Named (subroutines all g xs) y → (NotIn y xs → ⊥) × FoundAt all y
  in_order [] y n = absurd n
  in_order (x ∷ xs) y n = ⊎_elim (λ m. let r = in_order xs y m in (λ k. r.0 k.1, r.1)) here (named_parts (subroutines all g xs) (map (routine all g) (subroutines_among (named all x))) y n)
    where
      here : Named (map (routine all g) (subroutines_among (named all x))) y → (NotIn y (x ∷ xs) → ⊥) × FoundAt all y
      here m = let r = found all g x all y m in (λ k. true≢false (sym ((bytes_eq-Decides x y).1 (sym r.0)) ∙ k.0), subst (FoundAt all) (sym r.0) r.1)

  subs_distinct : (ps : List ParsedTree) (sss : List (List SymbolTree)) → NamesOnce all → (xs : List (List ℕ)) → Sorted ps sss xs → Distinct (subroutines all g xs)
  subs_distinct ps sss once [] s = tt
  subs_distinct ps sss once (x ∷ xs) s =
      distinct_joined (subroutines all g xs) (map (routine all g) (subroutines_among (named all x))) (subs_distinct ps sss once xs s.2) (one_distinct all g x all once)
      (λ y a b. (in_order xs y a).0 (subst (λ w. NotIn w xs) (sym (found all g x all y b).0) s.0))

-- the main program and the subroutines of a program have different names
pub names_distinct : (ps : List ParsedTree) (sss : List (List SymbolTree)) (g : Graph) → IsProgram ps sss g → Distinct (routine (known_of ps sss) g (main_of (known_of ps sss)) ∷ subroutines (known_of ps sss) g g.order)
names_distinct ps sss g x = (λ y n. unequal_texts y (main_of (known_of ps sss)).read.name (apart y n), subs_distinct (known_of ps sss) g ps sss once g.order (order_sorted ps sss g (linked ps sss g x)))
  where
    once : NamesOnce (known_of ps sss)
    once = names_once ps sss g (linked ps sss g x)

    r : MainOf ps sss
    r = main_from ps sss x.tables (some_main ps sss g x.links)

    apart : (y : List ℕ) → Named (subroutines (known_of ps sss) g g.order) y → y ≡ (main_of (known_of ps sss)).read.name → ⊥
    apart y n e =
        let f = (in_order (known_of ps sss) g g.order y n).1 in
        let at : f.at ≡ r.at = once f.at r.at f.item (known r.parsed r.table) f.is_item (known_module ps sss r.at r.parsed r.table r.is_module) (f.is_named ∙ e ∙ ap (λ (k : Known). k.read.name) r.is_main) in
        let same : Some f.item ≡ Some (known r.parsed r.table) = sym f.is_item ∙ ap (slice_get (known_of ps sss)) at ∙ known_module ps sss r.at r.parsed r.table r.is_module in
        let item : f.item ≡ known r.parsed r.table = cc in
        true≢false (sym r.main ∙ ap (λ (k : Known). k.read.main) (sym item) ∙ f.is_sub)
