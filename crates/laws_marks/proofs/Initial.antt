-- DATA gives values to locals that are saved alone (ANSI X3.9-1978 §9, §8.9): units of others, and of expressions, have none where a run begins.
use Rattle.std.proofs.Common.{◌≡◌, ◌⊎◌, inl, inr, ⊎_elim, ℕ, zero, suc, ◌+◌, ◌-◌, ◌<◌, ◌≤◌, Bool, true, false, ◌&&◌, ◌||◌, List, [], ◌∷◌, Option, Some, None, refl, sym, ap, ap₂, ◌∙◌, subst, arith, true≢false, ℤ}
use Rattle.std.specs.Prelude.{if◌then◌else◌, is_some, slice_get, length, nat_le, nat_lt, Ok}
use Rattle.std.proofs.lemmas.Bool.{and_parts, and_from, or_left, or_right, eq-eqb, leb-true, ltb-true, le-leb, lt-ltb}
use Rattle.f77_ast.specs.DeclTrees.{ParsedTree}
use Rattle.f77_ast.specs.Calls.{in_place}
use Rattle.f77_ast.specs.Store.{Undefined, Content}
use Rattle.f77_ast.specs.declared.constant.Constant.{Constant}
use Rattle.f77_ast.specs.declared.symbol.Place.{Place}
use Rattle.f77_ast.specs.declared.symbol.Place.TheVariants as place
use Rattle.f77_ast.specs.declared.symbol.InitialRun.{InitialRun}
use Rattle.f77_ast.specs.Symbols.{SymbolTree}
use Rattle.f77_ast.specs.Units.{units_in}
use Rattle.f77_ast.specs.Shared.{symbol_at}
use Rattle.f77_names.specs.Entries.{EntryTree}
use Rattle.laws_programs.specs.storage_data.declared.offset_node.Home.{Home}
use Rattle.laws_programs.specs.storage_data.declared.offset_node.Home.TheVariants.{Block, Own}
use Rattle.laws_programs.specs.storage_data.declared.offset_node.OffsetNode.{OffsetNode}
use Rattle.laws_programs.specs.storage_data.Runs.{runs_of}
use Rattle.storage_layout.specs.Groups.{is_own, sits_in, keeps, some_keeps}
use Rattle.storage_layout.specs.Symbols.{symbols_of}
use Rattle.storage_layout.specs.Table.{home_place, place_in, unless_dummy, unless_value, is_kept, is_kept_at, is_saved, symbol_of}
use Rattle.call_graph.specs.declared.graph.Graph.{Graph}
use Rattle.f77_meaning.specs.Areas.{group, Numbering, unit_at}
use Rattle.f77_meaning.specs.Modules.{Known, known_of, fixed, fixed_place, fixed_maybe, value_from}
use Rattle.f77_meaning.specs.Linked.{or_else, or_empty, content_of, initial_in, initial_of, initial}
use Rattle.f77_meaning.specs.Laws.{area_of}
use Rattle.f77_meaning.proofs.InitialLaws.{own_units_begin_unset}
use Rattle.f77_meaning.proofs.LinkedLaws.{linked_have_blocks}
use Rattle.laws_programs.proofs.SymbolTables.Answers.{Answered, names_in, layout_in, answered_by}
use Rattle.laws_programs.proofs.SymbolTables.EntryLaws.{entry_of}
use Rattle.laws_programs.proofs.Layouts.EndLaws.{count_shared}
use Rattle.laws_programs.specs.Programs.{IsProgram}
use Rattle.laws_programs.specs.Storage.CellLaws.{units}
use Rattle.laws_programs.specs.Storage.Initial.{DataLies}
use Rattle.laws_programs.specs.Storage.Programs.{IsModule, known}
use Rattle.laws_programs.proofs.Storage.BeginLaws.{data_lies_in_variables}
use Rattle.laws_programs.proofs.Storage.ModuleLaws.{own_known}
use Rattle.laws_analyses.specs.ScalarLaws.{AcceptedDataStaysInLocals}
use Rattle.laws_analyses.proofs.UnitLaws.{module_at}
use Rattle.laws_marks.proofs.InGrouped.{locals_are_saved_together}
use Rattle.laws_interleavings.specs.Plans.Cleared.{HasNoValue}
use Rattle.laws_marks.specs.OwnLaws.{UnitsBeginUnset}
use Rattle.laws_marks.proofs.Apart.{OwnOf, LostOf, lost_of, same_group, one_module, linked, laid, Owned, of_local, of_expression, OwnerOf, owner}
use Rattle.f77_ast.proofs.StorageLaws.{from_number as numbered_place, to_number as next_symbol}

-- ---- a variable with DATA is saved

there_too : {A B : Type 0} (xs : List A) (ys : List B) (n : ℕ) (a : A) → length xs ≡ length ys → slice_get xs n ≡ Some a → (b : B) × (slice_get ys n ≡ Some b)
there_too [] ys n a e h = cc
there_too (x ∷ xs) [] n a e h = absurd (omega (arith, e))
there_too (x ∷ xs) (y ∷ ys) zero a e h = (y, refl)
there_too (x ∷ xs) (y ∷ ys) (suc n) a e h = there_too xs ys n a (omega (arith, e)) h

some_keeps_at : (h n : ℕ) (es : List EntryTree) (ss : List OffsetNode) (i : ℕ) (e : EntryTree) (s : OffsetNode) → slice_get es i ≡ Some e → slice_get ss (n + i) ≡ Some s → keeps h e (Some s) ≡ true → some_keeps h n es ss ≡ true
some_keeps_at h n [] ss i e s q r k = cc
some_keeps_at h n (x ∷ es) ss zero e s q r k =
    let same : x ≡ e = cc in
    let none : n + zero ≡ n = omega arith in
    let offset_node : slice_get ss n ≡ Some s = ap (slice_get ss) (sym none) ∙ r in
    or_left (keeps h x (slice_get ss n)) (some_keeps h (n + 1) es ss) (ap₂ (keeps h) same offset_node ∙ k)
some_keeps_at h n (x ∷ es) ss (suc i) e s q r k =
    let more : n + suc i ≡ (n + 1) + i = omega arith in
    or_right (keeps h x (slice_get ss n)) (some_keeps h (n + 1) es ss) (some_keeps_at h (n + 1) es ss i e s q (ap (slice_get ss) (sym more) ∙ r) k)

module _ (p : ParsedTree) (ss : List SymbolTree) (table : symbols_of p ≡ Ok ss) where
  answered : Answered p ss
  answered = answered_by p ss table

  with_data : (b : Bool) (n j : ℕ) (r : InitialRun) → slice_get (if b then runs_of n (layout_in p).pieces else []) j ≡ Some r → b ≡ true
  with_data true n j r h = refl
  with_data false n j r h = cc

  entry_saved : (n : ℕ) (e : EntryTree) → slice_get (names_in p).entries n ≡ Some e → (h o : ℕ) → (symbol_of (layout_in p) n e).place ≡ place.Local h o → (j : ℕ) (r : InitialRun) → slice_get (symbol_of (layout_in p) n e).initial j ≡ Some r → (symbol_of (layout_in p) n e).saved ≡ true
  entry_saved n e is h o lies j r some =
      let offset_node = there_too (names_in p).entries (layout_in p).offset_nodes n e (sym (count_shared p)) is in
      by e.value refl e.dummy refl offset_node.0 offset_node.1 (ap (λ z. unless_value e.value (unless_dummy e.dummy (place_in (layout_in p) z))) (sym offset_node.1) ∙ lies)
    where
      initial_so : e.initial ≡ true
      initial_so = with_data e.initial n j r some

      by : (v : Option Constant) → e.value ≡ v → (d : Option ℕ) → e.dummy ≡ d → (s : OffsetNode) → slice_get (layout_in p).offset_nodes n ≡ Some s → unless_value e.value (unless_dummy e.dummy (place_in (layout_in p) (Some s))) ≡ place.Local h o → (symbol_of (layout_in p) n e).saved ≡ true
      by (Some c) ev d ed s es q = (let z = ap (λ w. unless_value w (unless_dummy e.dummy (place_in (layout_in p) (Some s)))) (sym ev) ∙ q in cc)
      by None ev (Some m) ed s es q = (let z = ap₂ (λ w y. unless_value w (unless_dummy y (place_in (layout_in p) (Some s)))) (sym ev) (sym ed) ∙ q in cc)
      by None ev None ed s es q = go s.home refl (ap₂ (λ w y. unless_value w (unless_dummy y (place_in (layout_in p) (Some s)))) (sym ev) (sym ed) ∙ q)
        where
          nothing : (n : ℕ) → 0 + n ≡ n
          nothing n = omega arith

          kept : is_saved (layout_in p) e (slice_get (layout_in p).offset_nodes n) ≡ is_kept (layout_in p) s.home
          kept = ap₂ (λ (x : Option Constant) (y : Option ℕ). if is_some x || is_some y then false else is_kept_at (layout_in p) (slice_get (layout_in p).offset_nodes n)) ev ed ∙ ap (is_kept_at (layout_in p)) es

          go : (x : Home) → s.home ≡ x → home_place (layout_in p) s.offset x ≡ place.Local h o → (symbol_of (layout_in p) n e).saved ≡ true
          go (Block b) f z = cc
          go (Own k) f z =
              let sits : sits_in k (Some s) ≡ true = ap (is_own k) f ∙ eq-eqb k k refl in
              let here : keeps k e (Some s) ≡ true = and_from (e.saved || e.initial) (sits_in k (Some s)) (or_right e.saved e.initial initial_so) sits in
              kept ∙ (ap (is_kept (layout_in p)) f ∙ or_right (layout_in p).save_all (some_keeps k 0 (layout_in p).table.entries (layout_in p).offset_nodes) (some_keeps_at k 0 (names_in p).entries (layout_in p).offset_nodes n e s is (ap (slice_get (layout_in p).offset_nodes) (nothing n) ∙ es) here))

  data_saved : (v : ℕ) (s : SymbolTree) (h o : ℕ) → symbol_at ss v ≡ Some s → s.place ≡ place.Local h o → (j : ℕ) (r : InitialRun) → slice_get s.initial j ≡ Some r → s.saved ≡ true
  data_saved v s h o e lies j r some =
      let t = entry_of (layout_in p) 0 (names_in p).entries (v - 1) s (subst (λ z. slice_get z (v - 1) ≡ Some s) answered.table (numbered_place ss v s e)) in
      let here = t.is_place in
      let at : v - 1 ≡ t.place = omega (arith, here) in
      subst (λ (z : SymbolTree). z.saved ≡ true) (sym t.symbol)
      (entry_saved t.place t.entry (ap (slice_get (names_in p).entries) (sym at) ∙ t.is_entry) h o (ap (λ (z : SymbolTree). z.place) (sym t.symbol) ∙ lies) j r (ap (λ (z : SymbolTree). slice_get z.initial j) (sym t.symbol) ∙ some))

-- ---- which variable gives a unit its value

record RunOf (first : ℕ) (rs : List InitialRun) (u : ℕ) : Type 0 where
  at : ℕ
  run : InitialRun
  is_run : slice_get rs at ≡ Some run
  from : first + run.offset ≤ u
  below : u < first + run.offset + run.count

run_of_value : (first : ℕ) (rs : List InitialRun) (u : ℕ) (v : ℤ) → value_from first rs u ≡ Some v → RunOf first rs u
run_of_value first [] u v e = cc
run_of_value first (r ∷ rs) u v e = go (nat_le (first + r.offset) u && nat_lt u (first + r.offset + r.count)) refl e (run_of_value first rs u v)
  where
    go : (b : Bool) → (nat_le (first + r.offset) u && nat_lt u (first + r.offset + r.count)) ≡ b → (if b then Some r.value else value_from first rs u) ≡ Some v → (value_from first rs u ≡ Some v → RunOf first rs u) → RunOf first (r ∷ rs) u
    go true h i ih =
        let p = and_parts (nat_le (first + r.offset) u) (nat_lt u (first + r.offset + r.count)) h in
        record { at = zero; run = r; is_run = refl; from = leb-true (first + r.offset) u p.0; below = ltb-true u (first + r.offset + r.count) p.1 }
    go false h i ih = let q = ih i in record { at = suc q.at; run = q.run; is_run = q.is_run; from = q.from; below = q.below }

record BegunBy (n : Numbering) (k : Known) (ss : List SymbolTree) (u : ℕ) : Type 0 where
  at : ℕ
  symbol : SymbolTree
  is_symbol : slice_get ss at ≡ Some symbol
  by : RunOf (fixed_place n k.read.name k.symbols symbol symbol.place).first symbol.initial u

begun_by : (n : Numbering) (k : Known) (ss : List SymbolTree) (u : ℕ) → (initial_in n k ss u ≡ None) ⊎ BegunBy n k ss u
begun_by n k [] u = inl refl
begun_by n k (s ∷ ss) u = go (value_from (fixed_place n k.read.name k.symbols s s.place).first s.initial u) refl (begun_by n k ss u)
  where
    later : BegunBy n k ss u → BegunBy n k (s ∷ ss) u
    later b = record { at = suc b.at; symbol = b.symbol; is_symbol = b.is_symbol; by = b.by }

    go : (o : Option ℤ) → value_from (fixed_place n k.read.name k.symbols s s.place).first s.initial u ≡ o → (initial_in n k ss u ≡ None) ⊎ BegunBy n k ss u → (or_else (content_of s.scalar o) (initial_in n k ss u) ≡ None) ⊎ BegunBy n k (s ∷ ss) u
    go None e ih = ⊎_elim (λ a. inl a) (λ b. inr (later b)) ih
    go (Some v) e ih = inr (record { at = zero; symbol = s; is_symbol = refl; by = run_of_value (fixed_place n k.read.name k.symbols s s.place).first s.initial u v e })

record BegunIn (n : Numbering) (ks : List Known) (u : ℕ) : Type 0 where
  at : ℕ
  module_known : Known
  is_module : slice_get ks at ≡ Some module_known
  begun : BegunBy n module_known module_known.symbols u

begun_in : (n : Numbering) (ks : List Known) (u : ℕ) → (initial_of n ks u ≡ None) ⊎ BegunIn n ks u
begun_in n [] u = inl refl
begun_in n (k ∷ ks) u = ⊎_elim (λ e. first e (begun_in n ks u)) (λ b. inr (record { at = zero; module_known = k; is_module = refl; begun = b })) (begun_by n k k.symbols u)
  where
    later : BegunIn n ks u → BegunIn n (k ∷ ks) u
    later b = record { at = suc b.at; module_known = b.module_known; is_module = b.is_module; begun = b.begun }

    first : initial_in n k k.symbols u ≡ None → (initial_of n ks u ≡ None) ⊎ BegunIn n ks u → (initial_of n (k ∷ ks) u ≡ None) ⊎ BegunIn n (k ∷ ks) u
    first e r = ⊎_elim (λ a. inl (ap (λ o. or_else o (initial_of n ks u)) e ∙ a)) (λ b. inr (later b)) r

-- ---- programs that are read

module _ (lies : AcceptedDataStaysInLocals) (ps : List ParsedTree) (sss : List (List SymbolTree)) (g : Graph) (x : IsProgram ps sss g) where
  data_lies : DataLies ps sss
  data_lies = lies x.lines ps sss x.parsed x.tables

  -- a unit of a local that is not saved is given no value
  not_begun : (u : ℕ) → LostOf ps sss g x u → (j : ℕ) (q : ParsedTree) (tt' : List SymbolTree) → IsModule ps sss j q tt' → BegunBy (units ps sss g) (known q tt') tt' u → ⊥
  not_begun u o j q tt' m b =
      let s = b.symbol in
      let is = next_symbol tt' b.at s b.is_symbol in
      let run = b.by in
      let stays = data_lies j q tt' m (suc b.at) s is run.at run.run run.is_run in
      by_place s.place refl stays.is_local is run stays.within
    where
      by_place : (w : Place) → b.symbol.place ≡ w → area_of q.module_read.name b.symbol.place ≡ Some (group q.module_read.name (data_lies j q tt' m (suc b.at) b.symbol (next_symbol tt' b.at b.symbol b.is_symbol) b.by.at b.by.run b.by.is_run).storage) → symbol_at tt' (suc b.at) ≡ Some b.symbol → RunOf (fixed_place (units ps sss g) q.module_read.name tt' b.symbol b.symbol.place).first b.symbol.initial u → b.by.run.offset + b.by.run.count ≤ units_in tt' b.symbol → ⊥
      by_place (place.Local h k) e area is run within =
          let first = unit_at (units ps sss g) (group q.module_read.name h) k in
          let from : first + b.by.run.offset ≤ u = subst (λ w. (fixed_place (units ps sss g) q.module_read.name tt' b.symbol w).first + b.by.run.offset ≤ u) e b.by.from in
          let below : u < first + b.by.run.offset + b.by.run.count = subst (λ w. u < (fixed_place (units ps sss g) q.module_read.name tt' b.symbol w).first + b.by.run.offset + b.by.run.count) e b.by.below in
          let has : in_place (fixed (units ps sss g) (known q tt') (suc b.at)) u ≡ true =
          ap (λ z. in_place (fixed_maybe (units ps sss g) q.module_read.name tt' z) u) is ∙ (ap (λ w. in_place (fixed_place (units ps sss g) q.module_read.name tt' b.symbol w) u) e
          ∙ and_from (nat_le first u) (nat_lt u (first + units_in tt' b.symbol)) (le-leb first u (omega (arith, from))) (lt-ltb u (first + units_in tt' b.symbol) (omega (arith, below, within)))) in
          let same : group o.parsed.module_read.name o.storage ≡ group q.module_read.name h = same_group ps sss g x u o j q tt' m (suc b.at) b.symbol (group q.module_read.name h) is (ap (area_of q.module_read.name) e) has in
          let name : o.parsed.module_read.name ≡ q.module_read.name = cc in
          let storage : o.storage ≡ h = cc in
          let one : known o.parsed o.table ≡ known q tt' = one_module ps sss g x o.at j o.parsed q o.table tt' o.is_module m name in
          let table : o.table ≡ tt' = ap (λ (k : Known). k.symbols) one in
          let there : symbol_at tt' o.number ≡ Some o.symbol = subst (λ (z : List SymbolTree). symbol_at z o.number ≡ Some o.symbol) table o.is_symbol in
          let lies_too : o.symbol.place ≡ place.Local h o.offset = o.lies ∙ ap (λ z. place.Local z o.offset) storage in
          let together = locals_are_saved_together q tt' (laid ps sss g x j q tt' m) o.number (suc b.at) h o.offset k o.symbol b.symbol there is lies_too e in
          true≢false (sym (data_saved q tt' (laid ps sss g x j q tt' m) (suc b.at) b.symbol h k is e b.by.at b.by.run b.by.is_run) ∙ (sym together ∙ o.kept))
      by_place (place.Dummy d) e area is run within = (let z = ap (area_of q.module_read.name) (sym e) ∙ area in cc)
      by_place (place.Block y k) e area is run within = (let z = ap (area_of q.module_read.name) (sym e) ∙ area in cc)
      by_place (place.Constant c) e area is run within = (let z = ap (area_of q.module_read.name) (sym e) ∙ area in cc)

  lost_unset : (u : ℕ) → LostOf ps sss g x u → HasNoValue (initial (known_of ps sss) g) u
  lost_unset u o = ⊎_elim (λ e. ap (λ z. (or_empty u z).tag) e) begun (begun_in (units ps sss g) (known_of ps sss) u)
    where
      begun : BegunIn (units ps sss g) (known_of ps sss) u → HasNoValue (initial (known_of ps sss) g) u
      begun b =
          let m = module_at ps sss b.at b.module_known b.is_module in
          absurd (not_begun u o b.at m.parsed m.table m.is_module (subst (λ (k : Known). BegunBy (units ps sss g) k k.symbols u) (sym m.same) b.begun))

  own_unset : (u : ℕ) → OwnOf ps sss g x u → HasNoValue (initial (known_of ps sss) g) u
  own_unset u o =
      subst (λ w. (initial (known_of ps sss) g w).tag ≡ Undefined) o.is_unit
      (ap (λ (c : Content). c.tag) (own_units_begin_unset (known_of ps sss) g o.parsed.module_read.name o.call o.spot (linked_have_blocks ps sss g (linked ps sss g x).many (linked ps sss g x).links) (data_lies_in_variables ps sss data_lies) (own_known ps sss g o.at o.parsed o.table o.is_module o.call o.spot)))

  owner_unset : (u : ℕ) → OwnerOf ps sss g x u → HasNoValue (initial (known_of ps sss) g) u
  owner_unset u o = go o.is_owned
    where
      go : Owned ps sss g x (known o.parsed o.table) u → HasNoValue (initial (known_of ps sss) g) u
      go (of_local h) = lost_unset u (lost_of ps sss g x o.at o.parsed o.table o.is_module u h)
      go (of_expression e) = own_unset u (record { at = o.at; parsed = o.parsed; table = o.table; is_module = o.is_module; call = e.call; spot = e.place; is_unit = e.is_unit })

pub units_begin_unset : AcceptedDataStaysInLocals → UnitsBeginUnset
units_begin_unset lies ps sss g x u w = owner_unset lies ps sss g x u (owner ps sss g x u w)
