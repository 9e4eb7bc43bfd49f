-- Where nothing of DATA is refused each list gives its values to the units of its targets.
use Rattle.std.proofs.Common.{◌≡◌, ℕ, ◌+◌, Bool, true, false, not, List, [], ◌∷◌, ◌++◌, Option, Some, None, refl, sym, ap, ◌∙◌, subst, append_assoc, append-nil}
use Rattle.std.specs.Prelude.{if◌then◌else◌, nat_eq, is_some, is_none, ◌||◌, slice_get}
use Rattle.std.specs.List.{list_any, AllByRecursion}
use Rattle.std.proofs.lemmas.Bool.{eqb-true}
use Rattle.f77_ast.specs.Trees.{ExprTree, ExprTrees}
use Rattle.f77_ast.specs.Trees as tree
use Rattle.f77_ast.specs.DeclTrees.{DataTree, DeclTree}
use Rattle.f77_ast.specs.DeclTrees as decl
use Rattle.f77_ast.specs.Places.{Dim}
use Rattle.fx_lists.specs.declared.code.Code.TheVariants.{InitialMismatch}
use Rattle.fx_lists.specs.declared.refusal.Refusal.{Refusal}
use Rattle.f77_names.specs.declared.lines.Sited.TheVariants.{Decl}
use Rattle.f77_names.specs.Lines.{LineTable, line_or}
use Rattle.f77_names.specs.Entries.{EntryTree, find}
use Rattle.f77_names.specs.Tables.{NameTable}
use Rattle.f77_checks.specs.Dimensions.{dims_in}
use Rattle.storage_data.specs.declared.offset_node.OffsetNode.{OffsetNode}
use Rattle.storage_data.specs.declared.targets.Target.{Target}
use Rattle.storage_data.specs.declared.targets.Target.TheVariants.{Excluded, Open}
use Rattle.storage_data.specs.declared.values.Run.{Run}
use Rattle.storage_data.specs.declared.deals.Piece.{Piece}
use Rattle.storage_data.specs.declared.initials.Filled.{Filled}
use Rattle.storage_data.specs.Units.{place_of}
use Rattle.storage_data.specs.Items.{item_name, item_fault, item_position, both, check_items}
use Rattle.storage_data.specs.Initials.{is_excluded, is_open, covers_element, covers, is_barred, entry_target, named_target, target_of, targets_of, units_in, values_in, runs_of, dealt, mismatch, given, targets_filled, faulted, group_filled, groups_filled, decl_filled, decls_filled}
use Rattle.laws_programs.proofs.SymbolTables.Answers.{filled_back}
use Rattle.laws_programs.specs.Layout.Layout.{data_in, data_lists}
use Rattle.laws_programs.proofs.Layouts.DealLaws.{slots, values, AllFit, all_left, all_right, dealt_fits}
use Rattle.laws_programs.proofs.Layouts.LineLaws.{item_other}
use Rattle.fx_lists.proofs.Refused.{none_refused}

-- ---- items without a fault are not open

covers_closed : (t : NameTable) (place : ℕ) (i : ExprTree) → is_open (covers t place i) ≡ false
covers_closed t place (tree.name x) = refl
covers_closed t place (tree.element x es) = go (item_position t (tree.element x es))
  where
    go : (o : Option ℕ) → is_open (covers_element place o) ≡ false
    go None = refl
    go (Some k) = refl
covers_closed t place (tree.int n) = refl
covers_closed t place (tree.log b) = refl
covers_closed t place (tree.paren e) = refl
covers_closed t place (tree.unary o e) = refl
covers_closed t place (tree.binary o a b) = refl
covers_closed t place (tree.chars x) = refl

both_none : (a b : Option Refusal) → both a b ≡ None → (a ≡ None) × (b ≡ None)
both_none None b e = (refl, e)
both_none (Some r) b e = let z = (none_refused true r.line r.code b e).0 in cc

module _ (t : NameTable) (ss : List OffsetNode) (known : (x : List ℕ) (e : EntryTree) (k : ℕ) → find x t.entries ≡ Some e → is_barred e (slice_get ss k) ≡ false → (ds : List Dim) × (dims_in t e ≡ Some ds)) where
  closed : (i : ExprTree) → item_fault t i 0 ≡ None → is_open (target_of t ss i) ≡ false
  closed i fault = by_name (item_name i)
    where
      barred : (x : List ℕ) (place : ℕ) (e : EntryTree) → find x t.entries ≡ Some e → (b : Bool) → is_barred e (slice_get ss place) ≡ b → is_open (if b then Excluded else if is_none (dims_in t e) || is_some (item_fault t i 0) then Open else covers t place i) ≡ false
      barred x place e f true q = refl
      barred x place e f false q =
          let ds = known x e place f q in
          ap (λ o. is_open (if is_none o || is_some (item_fault t i 0) then Open else covers t place i)) ds.1 ∙ ap (λ o. is_open (if is_some o then Open else covers t place i)) fault ∙ covers_closed t place i

      entry : (x : List ℕ) (o : Option ℕ) (r : Option EntryTree) → find x t.entries ≡ r → is_open (entry_target t ss i o r) ≡ false
      entry x None r f = refl
      entry x (Some place) None f = refl
      entry x (Some place) (Some e) f = barred x place e f (is_barred e (slice_get ss place)) refl

      by_name : (o : Option (List ℕ)) → is_open (named_target t ss i o) ≡ false
      by_name None = refl
      by_name (Some x) = entry x (place_of t x) (find x t.entries) refl

  or_none : (a b : Bool) → a ≡ false → b ≡ false → (a || b) ≡ false
  or_none true b e f = cc
  or_none false b e f = f

  judged_back : (is : List ExprTree) (line : ℕ) (o : Option Refusal) → check_items t is line o ≡ None → o ≡ None
  judged_back [] line o e = e
  judged_back (i ∷ is) line o e = (both_none (item_fault t i line) o (judged_back is line (both (item_fault t i line) o) e)).1

  all_closed : (is : List ExprTree) (line : ℕ) (o : Option Refusal) → check_items t is line o ≡ None → list_any is_open (targets_of t ss is) ≡ false
  all_closed [] line o e = refl
  all_closed (i ∷ is) line o e =
      let here = (both_none (item_fault t i line) o (judged_back is line (both (item_fault t i line) o) e)).0 in
      or_none (is_open (target_of t ss i)) (list_any is_open (targets_of t ss is)) (closed i (item_other t i line 0 here)) (all_closed is line (both (item_fault t i line) o) e)

  -- ---- one list

  abbrev pub GivesAll : List Piece → DataTree → Type 0
  GivesAll ps g = AllFit ps (slots (targets_of t ss g.targets)) (values (runs_of g.values))

  targets_fit : (cs : List Target) (rs : List Run) (line : ℕ) (f : Filled) → (f.found ≡ None → list_any is_open cs ≡ false) → (targets_filled t ss cs rs line f).found ≡ None → AllFit (targets_filled t ss cs rs line f).pieces (slots cs) (values rs)
  targets_fit cs rs line f shut e = one (list_any is_excluded cs) (list_any is_open cs) refl (not (nat_eq (units_in cs) (values_in rs))) refl e
    where
      turned : (b : Bool) → not b ≡ false → b ≡ true
      turned true h = refl
      turned false h = cc

      one : (a b : Bool) → list_any is_open cs ≡ b → (c : Bool) → not (nat_eq (units_in cs) (values_in rs)) ≡ c → (let r : Filled = if a then mismatch true line f else if b then f else if c then mismatch true line f else given t ss cs rs line f in r.found) ≡ None → AllFit (let r : Filled = if a then mismatch true line f else if b then f else if c then mismatch true line f else given t ss cs rs line f in r.pieces) (slots cs) (values rs)
      one true b q c z h = let no = (none_refused true line InitialMismatch f.found h).0 in cc
      one false true q c z h = let no : true ≡ false = sym q ∙ shut h in cc
      one false false q true z h = let no = (none_refused true line InitialMismatch f.found h).0 in cc
      one false false q false z h = all_right f.pieces (dealt cs rs) (slots cs) (values rs) (dealt_fits cs rs (eqb-true (units_in cs) (values_in rs) (turned (nat_eq (units_in cs) (values_in rs)) z)))

  group_fits : (g : DataTree) (line : ℕ) (f : Filled) → (group_filled t ss g line f).found ≡ None → GivesAll (group_filled t ss g line f).pieces g
  group_fits g line f e = targets_fit (targets_of t ss g.targets) (runs_of g.values) line (faulted t g.targets line f) (λ h. all_closed g.targets line f.found h) e

  -- ---- statements

  grown : (cs : List Target) (rs : List Run) (line : ℕ) (f : Filled) → (qs : List Piece) × ((targets_filled t ss cs rs line f).pieces ≡ f.pieces ++ qs)
  grown cs rs line f = go (list_any is_excluded cs) (list_any is_open cs) (not (nat_eq (units_in cs) (values_in rs)))
    where
      go : (a b c : Bool) → (qs : List Piece) × ((let r : Filled = if a then mismatch true line f else if b then f else if c then mismatch true line f else given t ss cs rs line f in r.pieces) ≡ f.pieces ++ qs)
      go true b c = ([], sym (append-nil f.pieces))
      go false true c = ([], sym (append-nil f.pieces))
      go false false true = ([], sym (append-nil f.pieces))
      go false false false = (dealt cs rs, refl)

  groups_grown : (gs : List DataTree) (line : ℕ) (f : Filled) → (qs : List Piece) × ((groups_filled t ss gs line f).pieces ≡ f.pieces ++ qs)
  groups_grown [] line f = ([], sym (append-nil f.pieces))
  groups_grown (g ∷ gs) line f =
      let first = grown (targets_of t ss g.targets) (runs_of g.values) line (faulted t g.targets line f) in
      let rest = groups_grown gs line (group_filled t ss g line f) in
      (first.0 ++ rest.0, rest.1 ∙ ap (λ z. z ++ rest.0) first.1 ∙ append_assoc f.pieces first.0 rest.0)

  groups_fit : (gs : List DataTree) (line : ℕ) (f : Filled) → (groups_filled t ss gs line f).found ≡ None → AllByRecursion (GivesAll (groups_filled t ss gs line f).pieces) gs
  groups_fit [] line f e = tt
  groups_fit (g ∷ gs) line f e =
      let next = group_filled t ss g line f in
      let quiet = filled_back t ss (λ s. Some line) (decl.initial gs ∷ []) 0 next e in
      let more = groups_grown gs line next in
      (subst (λ z. GivesAll z g) (sym more.1) (all_left next.pieces more.0 (slots (targets_of t ss g.targets)) (values (runs_of g.values)) (group_fits g line f quiet)), groups_fit gs line next e)

  lists_more : (ps qs : List Piece) (gs : List DataTree) → AllByRecursion (GivesAll ps) gs → AllByRecursion (GivesAll (ps ++ qs)) gs
  lists_more ps qs [] h = tt
  lists_more ps qs (g ∷ gs) h = (all_left ps qs (slots (targets_of t ss g.targets)) (values (runs_of g.values)) h.0, lists_more ps qs gs h.1)

  lists_joined : (ps : List Piece) (gs hs : List DataTree) → AllByRecursion (GivesAll ps) gs → AllByRecursion (GivesAll ps) hs → AllByRecursion (GivesAll ps) (gs ++ hs)
  lists_joined ps [] hs h k = k
  lists_joined ps (g ∷ gs) hs h k = (h.0, lists_joined ps gs hs h.1 k)

  decl_grown : (d : DeclTree) (line : ℕ) (f : Filled) → (qs : List Piece) × ((decl_filled t ss d line f).pieces ≡ f.pieces ++ qs)
  decl_grown (decl.initial gs) line f = groups_grown gs line f
  decl_grown (decl.implicit ps) line f = ([], sym (append-nil f.pieces))
  decl_grown (decl.integer es) line f = ([], sym (append-nil f.pieces))
  decl_grown (decl.logical es) line f = ([], sym (append-nil f.pieces))
  decl_grown (decl.dimension es) line f = ([], sym (append-nil f.pieces))
  decl_grown (decl.parameter xs) line f = ([], sym (append-nil f.pieces))
  decl_grown (decl.common cs) line f = ([], sym (append-nil f.pieces))
  decl_grown (decl.equivalence gs) line f = ([], sym (append-nil f.pieces))
  decl_grown (decl.save is) line f = ([], sym (append-nil f.pieces))

  decls_grown : (at : LineTable) (ds : List DeclTree) (n : ℕ) (f : Filled) → (qs : List Piece) × ((decls_filled t ss at ds n f).pieces ≡ f.pieces ++ qs)
  decls_grown at [] n f = ([], sym (append-nil f.pieces))
  decls_grown at (d ∷ ds) n f =
      let line = line_or at (Decl n) 0 in
      let first = decl_grown d line f in
      let rest = decls_grown at ds (n + 1) (decl_filled t ss d line f) in
      (first.0 ++ rest.0, rest.1 ∙ ap (λ z. z ++ rest.0) first.1 ∙ append_assoc f.pieces first.0 rest.0)

  decl_fits : (d : DeclTree) (line : ℕ) (f : Filled) → (decl_filled t ss d line f).found ≡ None → AllByRecursion (GivesAll (decl_filled t ss d line f).pieces) (data_in d)
  decl_fits (decl.initial gs) line f e = groups_fit gs line f e
  decl_fits (decl.implicit ps) line f e = tt
  decl_fits (decl.integer es) line f e = tt
  decl_fits (decl.logical es) line f e = tt
  decl_fits (decl.dimension es) line f e = tt
  decl_fits (decl.parameter xs) line f e = tt
  decl_fits (decl.common cs) line f e = tt
  decl_fits (decl.equivalence gs) line f e = tt
  decl_fits (decl.save is) line f e = tt

  -- each list of DATA, by the pieces of all of them
  pub decls_fit : (at : LineTable) (ds : List DeclTree) (n : ℕ) (f : Filled) → (decls_filled t ss at ds n f).found ≡ None → AllByRecursion (GivesAll (decls_filled t ss at ds n f).pieces) (data_lists ds)
  decls_fit at [] n f e = tt
  decls_fit at (d ∷ ds) n f e =
      let line = line_or at (Decl n) 0 in
      let next = decl_filled t ss d line f in
      let last = (decls_filled t ss at ds (n + 1) next).pieces in
      let first = decl_fits d line f (filled_back t ss at ds (n + 1) next e) in
      let more = decls_grown at ds (n + 1) next in
      lists_joined last (data_in d) (data_lists ds) (subst (λ z. AllByRecursion (GivesAll z) (data_in d)) (sym more.1) (lists_more next.pieces more.0 (data_in d) first)) (decls_fit at ds (n + 1) next e)

  -- ---- each item stands for units

  -- no target is left out
  abbrev pub Shut : DataTree → Type 0
  Shut g = (list_any is_excluded (targets_of t ss g.targets) ≡ false) × (list_any is_open (targets_of t ss g.targets) ≡ false)

  targets_shut : (cs : List Target) (rs : List Run) (line : ℕ) (f : Filled) → (f.found ≡ None → list_any is_open cs ≡ false) → (targets_filled t ss cs rs line f).found ≡ None → (list_any is_excluded cs ≡ false) × (list_any is_open cs ≡ false)
  targets_shut cs rs line f shut e = one (list_any is_excluded cs) refl (list_any is_open cs) refl (not (nat_eq (units_in cs) (values_in rs))) e
    where
      one : (a : Bool) → list_any is_excluded cs ≡ a → (b : Bool) → list_any is_open cs ≡ b → (c : Bool) → (let r : Filled = if a then mismatch true line f else if b then f else if c then mismatch true line f else given t ss cs rs line f in r.found) ≡ None → (list_any is_excluded cs ≡ false) × (list_any is_open cs ≡ false)
      one true p b q c h = let no = (none_refused true line InitialMismatch f.found h).0 in cc
      one false p true q c h = let no : true ≡ false = sym q ∙ shut h in cc
      one false p false q c h = (p, q)

  groups_shut : (gs : List DataTree) (line : ℕ) (f : Filled) → (groups_filled t ss gs line f).found ≡ None → AllByRecursion Shut gs
  groups_shut [] line f e = tt
  groups_shut (g ∷ gs) line f e =
      let next = group_filled t ss g line f in
      let quiet = filled_back t ss (λ s. Some line) (decl.initial gs ∷ []) 0 next e in
      (targets_shut (targets_of t ss g.targets) (runs_of g.values) line (faulted t g.targets line f) (λ h. all_closed g.targets line f.found h) quiet, groups_shut gs line next e)

  shut_joined : (gs hs : List DataTree) → AllByRecursion Shut gs → AllByRecursion Shut hs → AllByRecursion Shut (gs ++ hs)
  shut_joined [] hs h k = k
  shut_joined (g ∷ gs) hs h k = (h.0, shut_joined gs hs h.1 k)

  decl_shut : (d : DeclTree) (line : ℕ) (f : Filled) → (decl_filled t ss d line f).found ≡ None → AllByRecursion Shut (data_in d)
  decl_shut (decl.initial gs) line f e = groups_shut gs line f e
  decl_shut (decl.implicit ps) line f e = tt
  decl_shut (decl.integer es) line f e = tt
  decl_shut (decl.logical es) line f e = tt
  decl_shut (decl.dimension es) line f e = tt
  decl_shut (decl.parameter xs) line f e = tt
  decl_shut (decl.common cs) line f e = tt
  decl_shut (decl.equivalence gs) line f e = tt
  decl_shut (decl.save is) line f e = tt

  pub decls_shut : (at : LineTable) (ds : List DeclTree) (n : ℕ) (f : Filled) → (decls_filled t ss at ds n f).found ≡ None → AllByRecursion Shut (data_lists ds)
  decls_shut at [] n f e = tt
  decls_shut at (d ∷ ds) n f e =
      let line = line_or at (Decl n) 0 in
      let next = decl_filled t ss d line f in
      shut_joined (data_in d) (data_lists ds) (decl_shut d line f (filled_back t ss at ds (n + 1) next e)) (decls_shut at ds (n + 1) next e)
