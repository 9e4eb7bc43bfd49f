-- The owners of units.
use Rattle.std.proofs.Common.{◌≡◌, ◌⊎◌, inl, inr, ℕ, zero, suc, ◌/◌, ◌<◌, Bool, true, false, not, List, [], ◌∷◌, length, Some, refl, sym, ap, ◌∙◌, subst, arith}
use Rattle.std.specs.Prelude.{bytes_eq, nat_eq, ◌&&◌, slice_get}
use Rattle.std.specs.List.{list_any}
use Rattle.std.proofs.lemmas.Bool.{and_parts, and_from, or_left, or_right, or_cases, or_from, eqb-true, eq-eqb, not-true, cases_Bool}
use Rattle.std.proofs.lemmas.Nat.{div-mul-add}
use Rattle.std.proofs.lemmas.Slice.Eq.{bytes_eq-Decides}
use Rattle.f77_ast.specs.DeclTrees.{ParsedTree}
use Rattle.f77_ast.specs.Calls.{in_place}
use Rattle.f77_ast.specs.declared.symbol.Place.TheVariants as place
use Rattle.f77_ast.specs.Symbols.{SymbolTree}
use Rattle.f77_ast.specs.Shared.{symbol_at}
use Rattle.call_graph.specs.declared.graph.Graph.{Graph}
use Rattle.f77_meaning.specs.Areas.{block, group, own, Numbering, place_in, area_number, unit_at, is_unit_of, is_own_unit}
use Rattle.f77_meaning.specs.Modules.{Known, known_of, fixed, dummies_from}
use Rattle.f77_meaning.specs.Linked.{room_for, declares, reaches, is_common}
use Rattle.f77_meaning.specs.Laws.{area_of}
use Rattle.f77_meaning.proofs.UnitLaws.{same_place, temporaries_are_recognisable}
use Rattle.f77_meaning.proofs.ModuleLaws.{has_room, variables_occupy_their_storage, offsets_fit}
use Rattle.f77_meaning.proofs.LinkLaws.{any_found}
use Rattle.laws_programs.specs.Storage.Programs.{IsLinked, IsModule, known}
use Rattle.laws_programs.specs.Storage.CellLaws.{units}
use Rattle.laws_programs.proofs.Storage.ModuleLaws.{known_module, declared, own_known}
use Rattle.laws_programs.specs.Storage.Below.{HasCall}
use Rattle.laws_programs.specs.Storage.Activations.{is_dummy}
use Rattle.laws_programs.proofs.Storage.BelowLaws.{at_once, never_back, lead_on}
use Rattle.laws_programs.proofs.Storage.LyingLaws.{variable_of, Lying, lying_dummy, lying_local, lying_common, lying, common_names_are_common}
use Rattle.laws_programs.specs.Storage.Owners.{belongs_to, owns, owns_below}
use Rattle.laws_programs.specs.Storage.OwnerLaws.{VariablesLie, VariablesAreHidden, ExpressionsAreBelow, BelowIsOwned, OwnedIsPrivate, OwnedIsInNoBlock, CalledOwnsBelow, CalledOwnsNoExpression}
use Rattle.laws_programs.proofs.Storage.AreaLaws.{group_owner, own_owner, no_owner, block_rest}
use Rattle.fx_lists.proofs.Lookups.{any_at}
use Rattle.fx_lists.proofs.Booleans.{never_both}

-- ---- owners

none_any : {A : Type 0} (f : A → Bool) (xs : List A) → ((x : A) (i : ℕ) → slice_get xs i ≡ Some x → f x ≡ false) → list_any f xs ≡ false
none_any f [] h = refl
none_any f (x ∷ xs) h = or_from (f x) (list_any f xs) (h x zero refl) (none_any f xs (λ y i e. h y (suc i) e))

pub owned_is_private : OwnedIsPrivate
owned_is_private ps sss g x y u h = go (cases_Bool (is_common (known_of ps sss) g y u))
  where
    go : (is_common (known_of ps sss) g y u ≡ true) ⊎ (is_common (known_of ps sss) g y u ≡ false) → is_common (known_of ps sss) g y u ≡ false
    go (inl c) =
        let N = units ps sss g in
        let k = any_found (λ z. reaches (length (known_of ps sss)) g.edges y z.read.name && list_any (λ b. declares b.name z && is_unit_of N (block b.name) u) g.blocks) (known_of ps sss) c in
        let inner = (and_parts (reaches (length (known_of ps sss)) g.edges y k.item.read.name) (list_any (λ b. declares b.name k.item && is_unit_of N (block b.name) u) g.blocks) k.holds).1 in
        let b = any_found (λ z. declares z.name k.item && is_unit_of N (block z.name) u) g.blocks inner in
        let unit = (and_parts (declares b.item.name k.item) (is_unit_of N (block b.item.name) u) b.holds).1 in
        let rest = block_rest N b.item.name u (eqb-true (u / N.room) (area_number N (block b.item.name)) unit) in
        let o = any_found (λ z. reaches (length (known_of ps sss)) g.edges x z.read.name && belongs_to N z.read.name u) (known_of ps sss) h in
        let yes = (and_parts (reaches (length (known_of ps sss)) g.edges x o.item.read.name) (belongs_to N o.item.read.name u) o.holds).1 in
        let z : true ≡ false = sym yes ∙ no_owner N o.item.read.name u rest in
        cc
    go (inr c) = c

pub owned_is_in_no_block : OwnedIsInNoBlock
owned_is_in_no_block ps sss g x b o h =
    let N = units ps sss g in
    none_any (λ z. reaches (length (known_of ps sss)) g.edges x z.read.name && belongs_to N z.read.name (unit_at N (block b) o)) (known_of ps sss)
    (λ z i e. never_both (reaches (length (known_of ps sss)) g.edges x z.read.name) (belongs_to N z.read.name (unit_at N (block b) o)) (λ r. no_owner N z.read.name (unit_at N (block b) o) (block_rest N b (unit_at N (block b) o) (div-mul-add (area_number N (block b)) N.room o h))))

module _ (ps : List ParsedTree) (sss : List (List SymbolTree)) (g : Graph) (l : IsLinked ps sss g) (i : ℕ) (p : ParsedTree) (ss : List SymbolTree) (m : IsModule ps sss i p ss) where
  abbrev ks : List Known
  ks = known_of ps sss

  abbrev N : Numbering
  N = units ps sss g

  abbrev X : List ℕ
  X = p.module_read.name

  -- the module reaches itself
  here : reaches (length ks) g.edges X X ≡ true
  here = at_once g.edges (length ks) X X ((bytes_eq-Decides X X).1 refl)

  -- the same place is that of the same name
  same_name : (y : List ℕ) → nat_eq (place_in N.modules X) (place_in N.modules y) ≡ true → X ≡ y
  same_name y e = same_place N.modules X y (own_known ps sss g i p ss m 0 0) (eqb-true (place_in N.modules X) (place_in N.modules y) e)

  itself : (u : ℕ) → belongs_to N X u ≡ true → owns ks g X u ≡ true
  itself u e = any_at (λ z. reaches (length ks) g.edges X z.read.name && belongs_to N z.read.name u) ks i (known p ss) (known_module ps sss i p ss m) (and_from (reaches (length ks) g.edges X X) (belongs_to N X u) here e)

  expression_mine : (call spot : ℕ) → belongs_to N X (unit_at N (own X call spot) 0) ≡ true
  expression_mine call spot = own_owner N X X call spot 0 (has_room ks) ∙ eq-eqb (place_in N.modules X) (place_in N.modules X) refl

  pub expression_below : (call spot : ℕ) → owns_below ks g X (unit_at N (own X call spot) 0) ≡ true
  expression_below call spot =
      or_right (list_any (λ k. (reaches (length ks) g.edges X k.read.name && not (bytes_eq X k.read.name)) && belongs_to N k.read.name (unit_at N (own X call spot) 0)) ks) (is_own_unit N (unit_at N (own X call spot) 0) && belongs_to N X (unit_at N (own X call spot) 0))
      (and_from (is_own_unit N (unit_at N (own X call spot) 0)) (belongs_to N X (unit_at N (own X call spot) 0)) (temporaries_are_recognisable N (own X call spot) 0 (has_room ks)) (expression_mine call spot))

  pub below_owned : (u : ℕ) → owns_below ks g X u ≡ true → owns ks g X u ≡ true
  below_owned u h = go (or_cases (list_any (λ k. (reaches (length ks) g.edges X k.read.name && not (bytes_eq X k.read.name)) && belongs_to N k.read.name u) ks) (is_own_unit N u && belongs_to N X u) h)
    where
      go : (list_any (λ k. (reaches (length ks) g.edges X k.read.name && not (bytes_eq X k.read.name)) && belongs_to N k.read.name u) ks ≡ true) ⊎ ((is_own_unit N u && belongs_to N X u) ≡ true) → owns ks g X u ≡ true
      go (inl a) =
          let f = any_found (λ k. (reaches (length ks) g.edges X k.read.name && not (bytes_eq X k.read.name)) && belongs_to N k.read.name u) ks a in
          let q = and_parts (reaches (length ks) g.edges X f.item.read.name && not (bytes_eq X f.item.read.name)) (belongs_to N f.item.read.name u) f.holds in
          let r = (and_parts (reaches (length ks) g.edges X f.item.read.name) (not (bytes_eq X f.item.read.name)) q.0).0 in
          any_at (λ z. reaches (length ks) g.edges X z.read.name && belongs_to N z.read.name u) ks f.place f.item f.is_item (and_from (reaches (length ks) g.edges X f.item.read.name) (belongs_to N f.item.read.name u) r q.1)
      go (inr b) = itself u (and_parts (is_own_unit N u) (belongs_to N X u) b).1

  -- ---- variables

  -- the unit of a local is the module's
  local_mine : (v h o u : ℕ) (s : SymbolTree) → symbol_at ss v ≡ Some s → s.place ≡ place.Local h o → in_place (fixed N (known p ss) v) u ≡ true → (y : List ℕ) → (belongs_to N y u ≡ nat_eq (place_in N.modules X) (place_in N.modules y)) × (is_own_unit N u ≡ false)
  local_mine v h o u s e f has y =
      let area = ap (area_of X) f in
      let d = declared ps sss i p ss m v s e in
      let x = variables_occupy_their_storage ks g (known p ss) v s (group X h) u d area has in
      let fits = offsets_fit ks (known p ss) v s d in
      let below : x.distance < room_for ks = omega (arith, fits, x.below) in
      (ap (belongs_to N y) x.unit ∙ group_owner N y X h x.distance below, ap (is_own_unit N) x.unit ∙ temporaries_are_recognisable N (group X h) x.distance below)

  -- that of a variable in COMMON is no module's
  common_free : (v u : ℕ) (s : SymbolTree) (b : List ℕ) (o : ℕ) → symbol_at ss v ≡ Some s → s.place ≡ place.Block b o → in_place (fixed N (known p ss) v) u ≡ true → (y : List ℕ) → belongs_to N y u ≡ false
  common_free v u s b o e f has y =
      let area = ap (area_of X) f in
      let d = declared ps sss i p ss m v s e in
      let x = variables_occupy_their_storage ks g (known p ss) v s (block b) u d area has in
      let fits = offsets_fit ks (known p ss) v s d in
      let below : x.distance < room_for ks = omega (arith, fits, x.below) in
      no_owner N y u (block_rest N b u (ap (λ z. z / N.room) x.unit ∙ div-mul-add (area_number N (block b)) N.room x.distance below))

  pub variable_lies : (v u : ℕ) → Lying ss v → is_dummy (dummies_from 1 ss) v ≡ false → in_place (fixed N (known p ss) v) u ≡ true → (is_common ks g X u ≡ true) ⊎ (owns ks g X u ≡ true)
  variable_lies v u (lying_dummy d) n has = let z : true ≡ false = sym d ∙ n in cc
  variable_lies v u (lying_local s h o e f k) n has = inr (itself u ((local_mine v h o u s e f has X).0 ∙ eq-eqb (place_in N.modules X) (place_in N.modules X) refl))
  variable_lies v u (lying_common s b o e f k) n has = inl (common_names_are_common ps sss g l i p ss m v u s b o e f has)

  none_below : (u : ℕ) → ((y : List ℕ) → bytes_eq X y ≡ false → belongs_to N y u ≡ false) → (is_own_unit N u && belongs_to N X u) ≡ false → owns_below ks g X u ≡ false
  none_below u f e =
      or_from (list_any (λ k. (reaches (length ks) g.edges X k.read.name && not (bytes_eq X k.read.name)) && belongs_to N k.read.name u) ks) (is_own_unit N u && belongs_to N X u)
      (none_any (λ k. (reaches (length ks) g.edges X k.read.name && not (bytes_eq X k.read.name)) && belongs_to N k.read.name u) ks (λ k j q. never_both (reaches (length ks) g.edges X k.read.name && not (bytes_eq X k.read.name)) (belongs_to N k.read.name u) (λ r. f k.read.name (not-true (bytes_eq X k.read.name) (and_parts (reaches (length ks) g.edges X k.read.name) (not (bytes_eq X k.read.name)) r).1)))) e

  pub variable_hidden : (v u : ℕ) → Lying ss v → is_dummy (dummies_from 1 ss) v ≡ false → in_place (fixed N (known p ss) v) u ≡ true → owns_below ks g X u ≡ false
  variable_hidden v u (lying_dummy d) n has = let z : true ≡ false = sym d ∙ n in cc
  variable_hidden v u (lying_local s h o e f k) n has =
      none_below u (λ y q. (local_mine v h o u s e f has y).0 ∙ other y q) (ap (λ b. b && belongs_to N X u) (local_mine v h o u s e f has X).1)
    where
      other : (y : List ℕ) → bytes_eq X y ≡ false → nat_eq (place_in N.modules X) (place_in N.modules y) ≡ false
      other y q = go (cases_Bool (nat_eq (place_in N.modules X) (place_in N.modules y)))
        where
          go : (nat_eq (place_in N.modules X) (place_in N.modules y) ≡ true) ⊎ (nat_eq (place_in N.modules X) (place_in N.modules y) ≡ false) → nat_eq (place_in N.modules X) (place_in N.modules y) ≡ false
          go (inl t) = let z : true ≡ false = sym ((bytes_eq-Decides X y).1 (same_name y t)) ∙ q in cc
          go (inr c) = c
  variable_hidden v u (lying_common s b o e f k) n has = none_below u (λ y q. common_free v u s b o e f has y) (never_both (is_own_unit N u) (belongs_to N X u) (λ r. common_free v u s b o e f has X))

  -- ---- what is called

  -- another module
  apart : (x y : List ℕ) → HasCall p ss x → reaches (length ks) g.edges x y ≡ true → X ≡ y → ⊥
  apart x y c r e = never_back ps sss g l i p ss m x c (subst (λ z. reaches (length ks) g.edges x z ≡ true) (sym e) r)

  pub called_below : (x : List ℕ) (u : ℕ) → HasCall p ss x → owns ks g x u ≡ true → owns_below ks g X u ≡ true
  called_below x u c h =
      let f = any_found (λ z. reaches (length ks) g.edges x z.read.name && belongs_to N z.read.name u) ks h in
      let q = and_parts (reaches (length ks) g.edges x f.item.read.name) (belongs_to N f.item.read.name u) f.holds in
      let on = lead_on ps sss g l i p ss m x f.item.read.name c q.0 in
      or_left (list_any (λ k. (reaches (length ks) g.edges X k.read.name && not (bytes_eq X k.read.name)) && belongs_to N k.read.name u) ks) (is_own_unit N u && belongs_to N X u)
      (any_at (λ k. (reaches (length ks) g.edges X k.read.name && not (bytes_eq X k.read.name)) && belongs_to N k.read.name u) ks f.place f.item f.is_item
      (and_from (reaches (length ks) g.edges X f.item.read.name && not (bytes_eq X f.item.read.name)) (belongs_to N f.item.read.name u) (and_from (reaches (length ks) g.edges X f.item.read.name) (not (bytes_eq X f.item.read.name)) on (differs f.item.read.name q.0)) q.1))
    where
      differs : (y : List ℕ) → reaches (length ks) g.edges x y ≡ true → not (bytes_eq X y) ≡ true
      differs y r = go (cases_Bool (bytes_eq X y))
        where
          go : (bytes_eq X y ≡ true) ⊎ (bytes_eq X y ≡ false) → not (bytes_eq X y) ≡ true
          go (inl t) = absurd (apart x y c r ((bytes_eq-Decides X y).0 t))
          go (inr f) = ap not f

  pub called_owns_none : (x : List ℕ) (call spot : ℕ) → HasCall p ss x → owns ks g x (unit_at N (own X call spot) 0) ≡ false
  called_owns_none x call spot c =
      none_any (λ z. reaches (length ks) g.edges x z.read.name && belongs_to N z.read.name (unit_at N (own X call spot) 0)) ks
      (λ z j e. never_both (reaches (length ks) g.edges x z.read.name) (belongs_to N z.read.name (unit_at N (own X call spot) 0)) (λ r. own_owner N z.read.name X call spot 0 (has_room ks) ∙ other z.read.name r))
    where
      other : (y : List ℕ) → reaches (length ks) g.edges x y ≡ true → nat_eq (place_in N.modules X) (place_in N.modules y) ≡ false
      other y r = go (cases_Bool (nat_eq (place_in N.modules X) (place_in N.modules y)))
        where
          go : (nat_eq (place_in N.modules X) (place_in N.modules y) ≡ true) ⊎ (nat_eq (place_in N.modules X) (place_in N.modules y) ≡ false) → nat_eq (place_in N.modules X) (place_in N.modules y) ≡ false
          go (inl t) = absurd (apart x y c r (same_name y t))
          go (inr f) = f

-- ---- the laws

pub variables_lie : VariablesLie
variables_lie ps sss g l i p ss m x v u e n h = variable_lies ps sss g l i p ss m v u (lying ss v (variable_of ss x v e)) n h

pub variables_are_hidden : VariablesAreHidden
variables_are_hidden ps sss g l i p ss m x v u e n h = variable_hidden ps sss g l i p ss m v u (lying ss v (variable_of ss x v e)) n h

pub expressions_are_below : ExpressionsAreBelow
expressions_are_below ps sss g l i p ss m call spot = expression_below ps sss g l i p ss m call spot

pub below_is_owned : BelowIsOwned
below_is_owned ps sss g l i p ss m u h = below_owned ps sss g l i p ss m u h

pub called_owns_below : CalledOwnsBelow
called_owns_below ps sss g l i p ss m x u c h = called_below ps sss g l i p ss m x u c h

pub called_owns_no_expression : CalledOwnsNoExpression
called_owns_no_expression ps sss g l i p ss m x call spot c = called_owns_none ps sss g l i p ss m x call spot c
