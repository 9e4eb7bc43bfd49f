-- The names of a table have what names have, where those in the text of its module are names.
use Rattle.std.proofs.Common.{◌≡◌, ℕ, suc, Bool, true, false, List, [], ◌∷◌, ◌++◌, map, Option, Some, None, refl, sym, subst}
use Rattle.std.specs.Prelude.{if◌then◌else◌, bytes_eq, is_some}
use Rattle.f77_ast.specs.declared.decl.Scalar.{Scalar}
use Rattle.f77_ast.specs.declared.decl.Scalar.TheVariants.{Int, Log}
use Rattle.f77_ast.specs.declared.decl.SaveItem.{SaveItem}
use Rattle.f77_ast.specs.declared.decl.SaveItem.TheVariants as item
use Rattle.f77_ast.specs.declared.module.FunctionForm.{FunctionForm}
use Rattle.f77_ast.specs.declared.module.FunctionForm.TheVariants.{Plain, Integer, Logical}
use Rattle.f77_ast.specs.Trees.{ExprTree, ExprTrees, StmtTree, WhatTree, ArmTree, ArmTrees, ElseTree, LoopTree, StmtTrees}
use Rattle.f77_ast.specs.Trees as tree
use Rattle.f77_ast.specs.DeclTrees.{ExtentTree, EntityTree, SettingTree, CommonTree, DataTree, DeclTree}
use Rattle.f77_ast.specs.DeclTrees as decl
use Rattle.f77_names.specs.declared.functions.Function.{Function}
use Rattle.f77_names.specs.Functions.{function_of}
use Rattle.f77_names.specs.Entries.{EntryTree, fresh, find, seen, changed, with_dummy, with_type, with_shape, with_common, as_parameter, as_saved, as_initial}
use Rattle.f77_names.specs.Appearing.{unless_function, name_seen, expr_seen, exprs_seen, maybe_seen}
use Rattle.f77_names.specs.Declaring.{Told, typed, shaped, bound_of, in_common, dummy_told, dummies_told, form_told, extents_seen, entity_seen, typed_entity, typed_entities, shaped_entities, members_told, blocks_told, setting_told, settings_told, mention_told, item_told, items_told, groups_told, targets_told, save_told, saves_told, decl_told}
use Rattle.roundtrip_programs.specs.Statements.Formed.{IsName, Each, Filled, Formed, AllFormed, IsExpression, IsVariable, Rank, number, logical, constant, scalar, indexed, enclosed, operand, raised, factor, multiplied, term, signed, added, arithmetic, compared, asserted, denied, conjunct, both, disjunct, either, side, equated, none, more}
use Rattle.roundtrip_programs.specs.Statements.Declared.{MaybeExpression, IsExtent, IsEntity, IsArray, IsSetting, IsCommon, IsGroup, IsSaved, IsInitial, AreTyped, IsDecl}
use Rattle.roundtrip_programs.proofs.Statements.DeclBack.{each_of as filled_each}

-- each name is such
abbrev pub AreNamed : (List ℕ → Type 0) → List EntryTree → Type 0
AreNamed P es = Each (λ (e : EntryTree). P e.name) es

abbrev pub KeepsNames : (EntryTree → EntryTree) → Type 0
KeepsNames f = (e : EntryTree) → (f e).name ≡ e.name

pub bounds_filled : (xs : List ExtentTree) → Filled IsExtent xs → Each IsExtent xs
bounds_filled [] k = tt
bounds_filled (x ∷ xs) k = record { first = k.first; others = k.others }

pub group_each : (g : List ExprTree) → IsGroup g → Each IsVariable g
group_each [] k = absurd k
group_each (v ∷ vs) k = record { first = k.first; others = filled_each IsVariable vs k.others }

module _ (P : List ℕ → Type 0) (named : (x : List ℕ) → IsName x → P x) where
  -- ---- names that are added

  named_append : (es ds : List EntryTree) → AreNamed P es → AreNamed P ds → AreNamed P (es ++ ds)
  named_append [] ds h k = k
  named_append (e ∷ es) ds h k = record { first = h.first; others = named_append es ds h.others k }

  seen_by : (b : Bool) (x : List ℕ) (line : ℕ) (es : List EntryTree) → P x → AreNamed P es → AreNamed P (if b then es else es ++ fresh x line ∷ [])
  seen_by true x line es n h = h
  seen_by false x line es n h = named_append es (fresh x line ∷ []) h (record { first = n; others = tt })

  seen_named : (x : List ℕ) (line : ℕ) (es : List EntryTree) → IsName x → AreNamed P es → AreNamed P (seen x line es)
  seen_named x line es n h = seen_by (is_some (find x es)) x line es (named x n) h

  changed_by : (b : Bool) (x : List ℕ) (f : EntryTree → EntryTree) (e : EntryTree) (es : List EntryTree) → KeepsNames f → AreNamed P (e ∷ es) → AreNamed P (changed x f es)
      → AreNamed P (if b then f e ∷ es else e ∷ changed x f es)
  changed_by true x f e es k h ih = record { first = subst P (sym (k e)) h.first; others = h.others }
  changed_by false x f e es k h ih = record { first = h.first; others = ih }

  pub changed_named : (x : List ℕ) (f : EntryTree → EntryTree) (es : List EntryTree) → KeepsNames f → AreNamed P es → AreNamed P (changed x f es)
  changed_named x f [] k h = h
  changed_named x f (e ∷ es) k h = changed_by (bytes_eq x e.name) x f e es k h (changed_named x f es k h.others)

  -- ---- names in expressions

  unless_named : (f : Option Function) (x : List ℕ) (line : ℕ) (es : List EntryTree) → IsName x → AreNamed P es → AreNamed P (unless_function f x line es)
  unless_named None x line es n h = seen_named x line es n h
  unless_named (Some f) x line es n h = h

  pub name_named : (fs : List Function) (x : List ℕ) (line : ℕ) (es : List EntryTree) → IsName x → AreNamed P es → AreNamed P (name_seen fs x line es)
  name_named fs x line es n h = unless_named (function_of fs x) x line es n h

  mutual
    pub formed_named : (fs : List Function) (line : ℕ) {r : Rank} {e : ExprTree} → Formed r e → (es : List EntryTree) → AreNamed P es → AreNamed P (expr_seen fs e line es)
    formed_named fs line (number n b) es h = h
    formed_named fs line (logical b) es h = h
    formed_named fs line (constant c) es h = h
    formed_named fs line (scalar n k) es h = name_named fs n line es k h
    formed_named fs line (indexed n e rest k f g) es h =
        all_named fs line g (expr_seen fs e line (name_seen fs n line es)) (formed_named fs line f (name_seen fs n line es) (name_named fs n line es k h))
    formed_named fs line (enclosed e f) es h = formed_named fs line f es h
    formed_named fs line (operand e f) es h = formed_named fs line f es h
    formed_named fs line (raised a b f g) es h = formed_named fs line g (expr_seen fs a line es) (formed_named fs line f es h)
    formed_named fs line (factor e f) es h = formed_named fs line f es h
    formed_named fs line (multiplied op a b k f g) es h = formed_named fs line g (expr_seen fs a line es) (formed_named fs line f es h)
    formed_named fs line (term e f) es h = formed_named fs line f es h
    formed_named fs line (signed op e k f) es h = formed_named fs line f es h
    formed_named fs line (added op a b k f g) es h = formed_named fs line g (expr_seen fs a line es) (formed_named fs line f es h)
    formed_named fs line (arithmetic e f) es h = formed_named fs line f es h
    formed_named fs line (compared op a b k f g) es h = formed_named fs line g (expr_seen fs a line es) (formed_named fs line f es h)
    formed_named fs line (asserted e f) es h = formed_named fs line f es h
    formed_named fs line (denied e f) es h = formed_named fs line f es h
    formed_named fs line (conjunct e f) es h = formed_named fs line f es h
    formed_named fs line (both a b f g) es h = formed_named fs line g (expr_seen fs a line es) (formed_named fs line f es h)
    formed_named fs line (disjunct e f) es h = formed_named fs line f es h
    formed_named fs line (either a b f g) es h = formed_named fs line g (expr_seen fs a line es) (formed_named fs line f es h)
    formed_named fs line (side e f) es h = formed_named fs line f es h
    formed_named fs line (equated op a b k f g) es h = formed_named fs line g (expr_seen fs a line es) (formed_named fs line f es h)

    pub all_named : (fs : List Function) (line : ℕ) {rest : ExprTrees} → AllFormed rest → (es : List EntryTree) → AreNamed P es → AreNamed P (exprs_seen fs rest line es)
    all_named fs line none es h = h
    all_named fs line (more e rest f g) es h = all_named fs line g (expr_seen fs e line es) (formed_named fs line f es h)

  pub expr_named : (fs : List Function) (e : ExprTree) (line : ℕ) (es : List EntryTree) → IsExpression e → AreNamed P es → AreNamed P (expr_seen fs e line es)
  expr_named fs e line es f h = formed_named fs line f es h

  pub maybe_named : (fs : List Function) (e : Option ExprTree) (line : ℕ) (es : List EntryTree) → MaybeExpression e → AreNamed P es → AreNamed P (maybe_seen fs e line es)
  maybe_named fs None line es f h = h
  maybe_named fs (Some e) line es f h = expr_named fs e line es f h

  pub variable_named : (fs : List Function) (e : ExprTree) (line : ℕ) (es : List EntryTree) → IsVariable e → AreNamed P es → AreNamed P (expr_seen fs e line es)
  variable_named fs (tree.name x) line es f h = name_named fs x line es f h
  variable_named fs (tree.element x (tree.more_exprs e rest)) line es f h =
      all_named fs line f.others (expr_seen fs e line (name_seen fs x line es)) (expr_named fs e line (name_seen fs x line es) f.first (name_named fs x line es f.name h))
  variable_named fs (tree.element x tree.no_exprs) line es f h = absurd f
  variable_named fs (tree.int n) line es f h = absurd f
  variable_named fs (tree.log b) line es f h = absurd f
  variable_named fs (tree.paren e) line es f h = absurd f
  variable_named fs (tree.unary o e) line es f h = absurd f
  variable_named fs (tree.binary o a b) line es f h = absurd f
  variable_named fs (tree.chars x) line es f h = absurd f

  -- ---- specification statements

  shaped_named : (x : List ℕ) (bs : List ExtentTree) (line : ℕ) (t : Told) → AreNamed P t.entries → AreNamed P (shaped x bs line t).entries
  shaped_named x [] line t h = h
  shaped_named x (b ∷ bs) line t h = changed_named x (with_shape (record { line = line; bounds = map bound_of (b ∷ bs) })) t.entries (λ e. refl) h

  pub dummies_named : (xs : List (List ℕ)) (n line : ℕ) (t : Told) → Each IsName xs → AreNamed P t.entries → AreNamed P (dummies_told xs n line t).entries
  dummies_named [] n line t k h = h
  dummies_named (x ∷ xs) n line t k h =
      dummies_named xs (suc n) line (dummy_told x n line t) k.others
      (changed_named x (with_dummy n) (seen x line t.entries) (λ e. refl) (seen_named x line t.entries k.first h))

  pub form_named : (o : Option FunctionForm) (x : List ℕ) (line : ℕ) (t : Told) → AreNamed P t.entries → AreNamed P (form_told o x line t).entries
  form_named None x line t h = h
  form_named (Some Plain) x line t h = h
  form_named (Some Integer) x line t h = changed_named x (with_type Int) t.entries (λ e. refl) h
  form_named (Some Logical) x line t h = changed_named x (with_type Log) t.entries (λ e. refl) h

  extents_named : (fs : List Function) (xs : List ExtentTree) (line : ℕ) (es : List EntryTree) → Each IsExtent xs → AreNamed P es → AreNamed P (extents_seen fs xs line es)
  extents_named fs [] line es k h = h
  extents_named fs (x ∷ xs) line es k h =
      extents_named fs xs line _ k.others (maybe_named fs x.high line (maybe_seen fs x.low line es) k.first.high (maybe_named fs x.low line es k.first.low h))

  entity_named : (fs : List Function) (e : EntityTree) (line : ℕ) (t : Told) → IsEntity e → AreNamed P t.entries → AreNamed P (entity_seen fs e line t).entries
  entity_named fs e line t k h = extents_named fs e.bounds line (seen e.name line t.entries) k.bounds (seen_named e.name line t.entries k.name h)

  typed_named : (fs : List Function) (s : Scalar) (es : List EntityTree) (line : ℕ) (t : Told) → Each IsEntity es → AreNamed P t.entries → AreNamed P (typed_entities fs s es line t).entries
  typed_named fs s [] line t k h = h
  typed_named fs s (e ∷ es) line t k h =
      let seen_so = entity_named fs e line t k.first h in
      let typed_so = changed_named e.name (with_type s) (entity_seen fs e line t).entries (λ d. refl) seen_so in
      typed_named fs s es line (typed_entity fs s e line t) k.others (shaped_named e.name e.bounds line (typed e.name s line (entity_seen fs e line t)) typed_so)

  all_typed_named : (fs : List Function) (s : Scalar) (es : List EntityTree) (line : ℕ) (t : Told) → AreTyped es → AreNamed P t.entries → AreNamed P (typed_entities fs s es line t).entries
  all_typed_named fs s [] line t k h = h
  all_typed_named fs s (e ∷ es) line t k h = typed_named fs s (e ∷ es) line t (record { first = k.first; others = k.others }) h

  shapes_named : (fs : List Function) (es : List EntityTree) (line : ℕ) (t : Told) → Each IsArray es → AreNamed P t.entries → AreNamed P (shaped_entities fs es line t).entries
  shapes_named fs [] line t k h = h
  shapes_named fs (e ∷ es) line t k h =
      let own = entity_named fs e line t (record { name = k.first.name; bounds = bounds_filled e.bounds k.first.bounds }) h in
      shapes_named fs es line (shaped e.name e.bounds line (entity_seen fs e line t)) k.others (shaped_named e.name e.bounds line (entity_seen fs e line t) own)

  members_named : (fs : List Function) (es : List EntityTree) (line : ℕ) (t : Told) → Each IsEntity es → AreNamed P t.entries → AreNamed P (members_told fs es line t).entries
  members_named fs [] line t k h = h
  members_named fs (e ∷ es) line t k h =
      let own = shaped_named e.name e.bounds line (entity_seen fs e line t) (entity_named fs e line t k.first h) in
      let shaped_so = shaped e.name e.bounds line (entity_seen fs e line t) in
      members_named fs es line (in_common e.name line shaped_so) k.others (changed_named e.name (with_common line) shaped_so.entries (λ d. refl) own)

  blocks_named : (fs : List Function) (cs : List CommonTree) (line : ℕ) (t : Told) → Each IsCommon cs → AreNamed P t.entries → AreNamed P (blocks_told fs cs line t).entries
  blocks_named fs [] line t k h = h
  blocks_named fs (c ∷ cs) line t k h =
      blocks_named fs cs line (members_told fs c.members line t) k.others (members_named fs c.members line t (filled_each IsEntity c.members k.first.members) h)

  settings_named : (fs : List Function) (ss : List SettingTree) (line : ℕ) (t : Told) → Each IsSetting ss → AreNamed P t.entries → AreNamed P (settings_told fs ss line t).entries
  settings_named fs [] line t k h = h
  settings_named fs (s ∷ ss) line t k h =
      let own = changed_named s.name as_parameter (seen s.name line t.entries) (λ e. refl) (seen_named s.name line t.entries k.first.name h) in
      settings_named fs ss line (setting_told fs s line t) k.others (expr_named fs s.value line (changed s.name as_parameter (seen s.name line t.entries)) k.first.value own)

  item_named : (fs : List Function) (f : EntryTree → EntryTree) (i : ExprTree) (line : ℕ) (t : Told) → KeepsNames f → IsVariable i → AreNamed P t.entries → AreNamed P (item_told fs f i line t).entries
  item_named fs f (tree.name x) line t n k h = changed_named x f (seen x line t.entries) n (seen_named x line t.entries k h)
  item_named fs f (tree.element x (tree.more_exprs e rest)) line t n k h =
      let own = changed_named x f (seen x line t.entries) n (seen_named x line t.entries k.name h) in
      let es = (mention_told f x line t).entries in
      all_named fs line k.others (expr_seen fs e line es) (expr_named fs e line es k.first own)
  item_named fs f (tree.element x tree.no_exprs) line t n k h = absurd k
  item_named fs f (tree.int m) line t n k h = absurd k
  item_named fs f (tree.log b) line t n k h = absurd k
  item_named fs f (tree.paren e) line t n k h = absurd k
  item_named fs f (tree.unary o e) line t n k h = absurd k
  item_named fs f (tree.binary o a b) line t n k h = absurd k
  item_named fs f (tree.chars x) line t n k h = absurd k

  items_named : (fs : List Function) (f : EntryTree → EntryTree) (is : List ExprTree) (line : ℕ) (t : Told) → KeepsNames f → Each IsVariable is → AreNamed P t.entries → AreNamed P (items_told fs f is line t).entries
  items_named fs f [] line t n k h = h
  items_named fs f (i ∷ is) line t n k h = items_named fs f is line (item_told fs f i line t) n k.others (item_named fs f i line t n k.first h)

  groups_named : (fs : List Function) (gs : List (List ExprTree)) (line : ℕ) (t : Told) → Each IsGroup gs → AreNamed P t.entries → AreNamed P (groups_told fs gs line t).entries
  groups_named fs [] line t k h = h
  groups_named fs (g ∷ gs) line t k h =
      groups_named fs gs line (items_told fs (λ e. e) g line t) k.others (items_named fs (λ e. e) g line t (λ e. refl) (group_each g k.first) h)

  targets_named : (fs : List Function) (gs : List DataTree) (line : ℕ) (t : Told) → Each IsInitial gs → AreNamed P t.entries → AreNamed P (targets_told fs gs line t).entries
  targets_named fs [] line t k h = h
  targets_named fs (g ∷ gs) line t k h =
      targets_named fs gs line (items_told fs as_initial g.targets line t) k.others
      (items_named fs as_initial g.targets line t (λ e. refl) (filled_each IsVariable g.targets k.first.targets) h)

  saves_named : (is : List SaveItem) (line : ℕ) (t : Told) → Each IsSaved is → AreNamed P t.entries → AreNamed P (saves_told is line t).entries
  saves_named [] line t k h = h
  saves_named (item.Name x ∷ is) line t k h =
      saves_named is line (save_told (item.Name x) line t) k.others (changed_named x as_saved (seen x line t.entries) (λ e. refl) (seen_named x line t.entries k.first h))
  saves_named (item.Block b ∷ is) line t k h = saves_named is line t k.others h

  pub decl_named : (fs : List Function) (d : DeclTree) (line : ℕ) (t : Told) → IsDecl d → AreNamed P t.entries → AreNamed P (decl_told fs d line t).entries
  decl_named fs (decl.implicit ps) line t k h = h
  decl_named fs (decl.integer es) line t k h = all_typed_named fs Int es line t k h
  decl_named fs (decl.logical es) line t k h = all_typed_named fs Log es line t k h
  decl_named fs (decl.dimension es) line t k h = shapes_named fs es line t (filled_each IsArray es k) h
  decl_named fs (decl.parameter ss) line t k h = settings_named fs ss line t (filled_each IsSetting ss k) h
  decl_named fs (decl.common cs) line t k h = blocks_named fs cs line t (filled_each IsCommon cs k) h
  decl_named fs (decl.equivalence gs) line t k h = groups_named fs gs line t (filled_each IsGroup gs k) h
  decl_named fs (decl.save is) line t k h = saves_named is line t k h
  decl_named fs (decl.initial gs) line t k h = targets_named fs gs line t (filled_each IsInitial gs k) h
