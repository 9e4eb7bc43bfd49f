-- The locals of a storage group are saved, or none is.
use Rattle.std.proofs.Common.{◌≡◌, ◌⊎◌, inl, inr, ⊎_elim, ℕ, zero, suc, ◌+◌, ◌-◌, ◌<◌, ◌≤◌, Bool, true, false, List, [], ◌∷◌, ◌++◌, Option, Some, None, arith, refl, sym, ap, ap₂, ◌∙◌, subst, nat_eq, true≢false}
use Rattle.std.specs.Prelude.{if◌then◌else◌, is_some, slice_get, unwrap_or, ◌||◌}
use Rattle.std.proofs.lemmas.Bool.{eqb-true, eq-eqb}
use Rattle.f77_ast.specs.DeclTrees.{ParsedTree}
use Rattle.f77_ast.specs.declared.constant.Constant.{Constant}
use Rattle.f77_ast.specs.declared.symbol.Place.TheVariants as place
use Rattle.f77_ast.specs.Symbols.{SymbolTree}
use Rattle.f77_ast.specs.Shared.{symbol_at}
use Rattle.f77_names.specs.Entries.{EntryTree}
use Rattle.laws_programs.specs.storage_data.declared.offset_node.Home.{Home}
use Rattle.laws_programs.specs.storage_data.declared.offset_node.Home.TheVariants.{Block, Own}
use Rattle.laws_programs.specs.storage_data.declared.offset_node.OffsetNode.{OffsetNode}
use Rattle.storage_layout.specs.Groups.{groups_from, index_from, with_group, with_home, with_offset_node, with_entry}
use Rattle.storage_layout.specs.Table.{Layout, group_in, home_place, place_in, unless_dummy, unless_value, is_kept, is_kept_at, is_saved, symbol_of}
use Rattle.laws_programs.proofs.SymbolTables.Answers.{Answered, names_in, layout_in, answered_by}
use Rattle.laws_programs.proofs.SymbolTables.EntryLaws.{entry_of}
use Rattle.laws_marks.specs.InTogether.{LocalsAreSavedTogether}
use Rattle.laws_marks.proofs.InValued.{parameters_have_values}
use Rattle.laws_programs.proofs.Layouts.SharingLaws.{index_least, index_same}
use Rattle.f77_ast.proofs.StorageLaws.{from_number as numbered_place}

-- ---- numbers of groups

abbrev pub IsThere : ℕ → List ℕ → ℕ → Type 0
IsThere n gs h = is_some (index_from n gs h) ≡ true

there_more : (n : ℕ) (gs : List ℕ) (h k : ℕ) → IsThere n gs k → IsThere n (gs ++ h ∷ []) k
there_more n [] h k e = cc
there_more n (x ∷ gs) h k e = go (nat_eq k x) e (λ i. there_more (n + 1) gs h k i)
  where
    go : (b : Bool) → is_some (if b then Some n else index_from (n + 1) gs k) ≡ true → (IsThere (n + 1) gs k → IsThere (n + 1) (gs ++ h ∷ []) k) → is_some (if b then Some n else index_from (n + 1) (gs ++ h ∷ []) k) ≡ true
    go true i ih = refl
    go false i ih = ih i

there_last : (n : ℕ) (gs : List ℕ) (h : ℕ) → IsThere n (gs ++ h ∷ []) h
there_last n [] h = ap (λ b. is_some (if b then Some n else None)) (eq-eqb h h refl)
there_last n (x ∷ gs) h = go (nat_eq h x) (there_last (n + 1) gs h)
  where
    go : (b : Bool) → IsThere (n + 1) (gs ++ h ∷ []) h → is_some (if b then Some n else index_from (n + 1) (gs ++ h ∷ []) h) ≡ true
    go true ih = refl
    go false ih = ih

group_keeps : (h k : ℕ) (gs : List ℕ) → IsThere 1 gs k → IsThere 1 (with_group h gs) k
group_keeps h k gs e = go (is_some (index_from 1 gs h))
  where
    go : (b : Bool) → IsThere 1 (if b then gs else gs ++ h ∷ []) k
    go true = e
    go false = there_more 1 gs h k e

group_has : (h : ℕ) (gs : List ℕ) → IsThere 1 (with_group h gs) h
group_has h gs = go (is_some (index_from 1 gs h)) refl
  where
    go : (b : Bool) → is_some (index_from 1 gs h) ≡ b → IsThere 1 (if b then gs else gs ++ h ∷ []) h
    go true e = e
    go false e = there_last 1 gs h

offset_node_keeps : (s : Option OffsetNode) (k : ℕ) (gs : List ℕ) → IsThere 1 gs k → IsThere 1 (with_offset_node s gs) k
offset_node_keeps None k gs e = e
offset_node_keeps (Some s) k gs e = go s.home
  where
    go : (x : Home) → IsThere 1 (with_home x gs) k
    go (Block b) = e
    go (Own n) = group_keeps n k gs e

entry_keeps : (e : EntryTree) (s : Option OffsetNode) (k : ℕ) (gs : List ℕ) → IsThere 1 gs k → IsThere 1 (with_entry e s gs) k
entry_keeps e s k gs h = go (is_some e.dummy || e.parameter)
  where
    go : (b : Bool) → IsThere 1 (if b then gs else with_offset_node s gs) k
    go true = h
    go false = offset_node_keeps s k gs h

groups_keep : (n : ℕ) (es : List EntryTree) (ss : List OffsetNode) (gs : List ℕ) (k : ℕ) → IsThere 1 gs k → IsThere 1 (groups_from n es ss gs) k
groups_keep n [] ss gs k h = h
groups_keep n (e ∷ es) ss gs k h = groups_keep (n + 1) es ss (with_entry e (slice_get ss n) gs) k (entry_keeps e (slice_get ss n) k gs h)

-- the group of a name that is no dummy and no PARAMETER
pub groups_have : (n : ℕ) (es : List EntryTree) (ss : List OffsetNode) (gs : List ℕ) (i : ℕ) (e : EntryTree) (s : OffsetNode) (k : ℕ) → slice_get es i ≡ Some e → e.dummy ≡ None → e.parameter ≡ false → slice_get ss (n + i) ≡ Some s → s.home ≡ Own k → IsThere 1 (groups_from n es ss gs) k
groups_have n [] ss gs i e s k q d p r h = cc
groups_have n (x ∷ es) ss gs zero e s k q d p r h =
    let same : x ≡ e = cc in
    let none : n + zero ≡ n = omega arith in
    let offset_node : slice_get ss n ≡ Some s = ap (slice_get ss) (sym none) ∙ r in
    groups_keep (n + 1) es ss (with_entry x (slice_get ss n) gs) k
    (subst (λ (z : EntryTree). IsThere 1 (with_entry z (slice_get ss n) gs) k) (sym same) (subst (λ o. IsThere 1 (with_entry e o gs) k) (sym offset_node)
    (subst (λ b. IsThere 1 (if b then gs else with_home s.home gs) k) (sym (ap₂ (λ o b. is_some o || b) d p)) (subst (λ z. IsThere 1 (with_home z gs) k) (sym h) (group_has k gs)))))
groups_have n (x ∷ es) ss gs (suc i) e s k q d p r h =
    let more : n + suc i ≡ (n + 1) + i = omega arith in
    groups_have (n + 1) es ss (with_entry x (slice_get ss n) gs) i e s k q d p (ap (slice_get ss) (sym more) ∙ r) h

-- ---- a table

module _ (p : ParsedTree) (ss : List SymbolTree) (a : Answered p ss) where
  abbrev l : Layout
  l = layout_in p

  -- a local: without an offset node, or of a group
  data Local (s : SymbolTree) (h : ℕ) : Type 0 where
    no_offset_node : h ≡ 0 → s.saved ≡ false → Local s h
    of_group : (k : ℕ) → index_from 1 (groups_from 0 (layout_in p).table.entries (layout_in p).offset_nodes []) k ≡ Some h → s.saved ≡ is_kept (layout_in p) (Own k) → Local s h

  module _ (n : ℕ) (e : EntryTree) (is_entry : slice_get (names_in p).entries n ≡ Some e) where
    plain : e.value ≡ None → e.parameter ≡ false
    plain v = go e.parameter refl
      where
        go : (b : Bool) → e.parameter ≡ b → b ≡ false
        go true q = absurd (true≢false (sym (parameters_have_values p ss a n e is_entry q) ∙ ap is_some v))
        go false q = refl

    grouped : (h o : ℕ) → (v : Option Constant) → e.value ≡ v → (d : Option ℕ) → e.dummy ≡ d → (w : Option OffsetNode) → slice_get (layout_in p).offset_nodes n ≡ w → unless_value v (unless_dummy d (place_in (layout_in p) w)) ≡ place.Local h o → Local (symbol_of (layout_in p) n e) h
    grouped h o (Some c) ev d ed w ew q = cc
    grouped h o None ev (Some m) ed w ew q = cc
    grouped h o None ev None ed None ew q = (let none : 0 ≡ h = cc in no_offset_node (sym none) (saved None ew))
      where
        saved : (w : Option OffsetNode) → slice_get (layout_in p).offset_nodes n ≡ w → is_saved (layout_in p) e (slice_get (layout_in p).offset_nodes n) ≡ is_kept_at (layout_in p) w
        saved w ew = ap₂ (λ (x : Option Constant) (y : Option ℕ). if is_some x || is_some y then false else is_kept_at (layout_in p) (slice_get (layout_in p).offset_nodes n)) ev ed ∙ ap (is_kept_at (layout_in p)) ew
    grouped h o None ev None ed (Some s) ew q = go s.home refl q
      where
        saved : is_saved (layout_in p) e (slice_get (layout_in p).offset_nodes n) ≡ is_kept (layout_in p) s.home
        saved = ap₂ (λ (x : Option Constant) (y : Option ℕ). if is_some x || is_some y then false else is_kept_at (layout_in p) (slice_get (layout_in p).offset_nodes n)) ev ed ∙ ap (is_kept_at (layout_in p)) ew

        number : (k : ℕ) (w : Option ℕ) → index_from 1 (groups_from 0 (layout_in p).table.entries (layout_in p).offset_nodes []) k ≡ w → is_some w ≡ true → unwrap_or w 0 ≡ h → w ≡ Some h
        number k None f t u = cc
        number k (Some g) f t u = ap Some u

        go : (x : Home) → s.home ≡ x → home_place (layout_in p) s.offset x ≡ place.Local h o → Local (symbol_of (layout_in p) n e) h
        go (Block b) f r = cc
        go (Own k) f r =
            let group : group_in (layout_in p) k ≡ h = cc in
            let has = groups_have 0 (layout_in p).table.entries (layout_in p).offset_nodes [] n e s k is_entry ed (plain ev) (ap (slice_get (layout_in p).offset_nodes) (no_more n) ∙ ew) f in
            of_group k (number k (index_from 1 (groups_from 0 (layout_in p).table.entries (layout_in p).offset_nodes []) k) refl has group) (saved ∙ ap (is_kept (layout_in p)) f)
          where
            no_more : (n : ℕ) → 0 + n ≡ n
            no_more n = omega arith

  local_at : (n h o : ℕ) (s : SymbolTree) → symbol_at ss n ≡ Some s → s.place ≡ place.Local h o → Local s h
  local_at n h o s e q =
      let r = entry_of (layout_in p) 0 (names_in p).entries (n - 1) s (subst (λ z. slice_get z (n - 1) ≡ Some s) a.table (numbered_place ss n s e)) in
      let here = r.is_place in
      let at : n - 1 ≡ r.place = omega (arith, here) in
      subst (λ (z : SymbolTree). Local z h) (sym r.symbol)
      (grouped r.place r.entry (ap (slice_get (names_in p).entries) (sym at) ∙ r.is_entry) h o r.entry.value refl r.entry.dummy refl (slice_get (layout_in p).offset_nodes r.place) refl (ap (λ (z : SymbolTree). z.place) (sym r.symbol) ∙ q))

  both : (s t : SymbolTree) (h : ℕ) → Local s h → Local t h → s.saved ≡ t.saved
  both s t h (no_offset_node z e) (no_offset_node y f) = e ∙ sym f
  both s t h (no_offset_node z e) (of_group k i f) = (let low = index_least 1 (groups_from 0 (layout_in p).table.entries (layout_in p).offset_nodes []) k h i in absurd (omega (arith, z, low)))
  both s t h (of_group k i f) (no_offset_node z e) = (let low = index_least 1 (groups_from 0 (layout_in p).table.entries (layout_in p).offset_nodes []) k h i in absurd (omega (arith, z, low)))
  both s t h (of_group k i f) (of_group m j g) = f ∙ (ap (λ n. is_kept (layout_in p) (Own n)) (index_same 1 (groups_from 0 (layout_in p).table.entries (layout_in p).offset_nodes []) k m h i j) ∙ sym g)

pub locals_are_saved_together : LocalsAreSavedTogether
locals_are_saved_together p ss laid m n h o q s t e f lies there =
    let a = answered_by p ss laid in
    both p ss a s t h (local_at p ss a m h o s e lies) (local_at p ss a n h q t f there)
