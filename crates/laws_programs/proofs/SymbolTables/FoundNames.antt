-- What holds of each name that is found, whatever the statements of a module say and whatever values PARAMETER gives.
use Rattle.std.proofs.Common.{◌≡◌, ◌⊎◌, inl, inr, ℕ, suc, ◌+◌, Bool, true, false, List, [], ◌∷◌, ◌++◌, Option, Some, None, refl, sym, ap, ◌∙◌, subst}
use Rattle.std.specs.Prelude.{if◌then◌else◌, bytes_eq, is_some}
use Rattle.f77_ast.specs.DeclTrees.{SettingTree, DeclTree, ModuleTree}
use Rattle.f77_ast.specs.DeclTrees as decl
use Rattle.f77_ast.specs.declared.constant.Constant.{Constant}
use Rattle.f77_ast.specs.declared.constant.Constant.TheVariants as constant
use Rattle.f77_ast.specs.declared.constant.ConstantValue.{ConstantValue}
use Rattle.f77_ast.specs.declared.constant.ConstantValue.TheVariants.{Is, Faults, Varies}
use Rattle.f77_ast.specs.Constants.{const_value}
use Rattle.f77_names.specs.declared.functions.Function.{Function}
use Rattle.f77_names.specs.declared.kinds.Kind.{Kind}
use Rattle.f77_names.specs.declared.kinds.Kind.TheVariants.{Int, Log, Real}
use Rattle.f77_names.specs.declared.lines.Sited.TheVariants.{Decl, Title}
use Rattle.f77_names.specs.Lines.{LineTable, line_or}
use Rattle.f77_names.specs.Functions.{arrays_named}
use Rattle.f77_names.specs.Entries.{EntryTree, fresh, find, seen, changed, with_dummy, with_value, value_among}
use Rattle.f77_names.specs.Declaring.{Told, dummy_told, dummies_told, decls_told}
use Rattle.f77_names.specs.Tables.{no_names, title_told, told_of, kind_in, table_of, check_names}
use Rattle.f77_checks.specs.Parameters.{Valued, given_typed, given_const_value, setting_valued, settings_valued, decl_valued, decls_valued}
use Rattle.f77_ast.specs.DeclTrees.{ParsedTree}
use Rattle.storage_layout.specs.Symbols.{valued}
use Rattle.laws_programs.proofs.SymbolTables.KeptNames.{Said, with_said, form_keeps, decls_keep, stmts_keep, Typed, Shaped, Shared, Parameter, Saved, Initial, Nothing}
use Rattle.laws_programs.proofs.SymbolTables.Values.{chosen, as_chosen, is_taken, judged}
use Rattle.laws_programs.proofs.SymbolTables.DummiesTold.{found_in}
use Rattle.laws_programs.proofs.SymbolTables.Answers.{lines_in, names_in}

-- of each name that is found
abbrev pub AllFound : (EntryTree → Type 0) → List EntryTree → Type 0
AllFound G es = (y : List ℕ) (e : EntryTree) → find y es ≡ Some e → G e

none_found : (G : EntryTree → Type 0) → AllFound G []
unfolding find
none_found G y e h = cc

seen_found : (G : EntryTree → Type 0) → ((x : List ℕ) (line : ℕ) → G (fresh x line)) → (x : List ℕ) (line : ℕ) (es : List EntryTree) → AllFound G es → AllFound G (seen x line es)
seen_found G new x line es all = go (is_some (find x es))
  where
    go : (b : Bool) → AllFound G (if b then es else es ++ fresh x line ∷ [])
    go true = all
    go false = λ y e h. elim (found_in y es (fresh x line) e h) [ inl a ↦ all y e a | inr b ↦ subst G b (new x line) ]

-- what is found where more is said of a name x: what was found, or the first entry of x with what is said
pub record Changed (x : List ℕ) (f : EntryTree → EntryTree) (es : List EntryTree) (y : List ℕ) (d : EntryTree) : Type 0 where
  pub entry : EntryTree
  pub found : find y es ≡ Some entry
  pub is : (entry ≡ d) ⊎ ((f entry ≡ d) × (find x es ≡ Some entry))

pub find_changed : (x : List ℕ) (f : EntryTree → EntryTree) → ((e : EntryTree) → (f e).name ≡ e.name) → (es : List EntryTree) (y : List ℕ) (d : EntryTree) → find y (changed x f es) ≡ Some d → Changed x f es y d
unfolding find
find_changed x f names [] y d h = cc
find_changed x f names (e ∷ es) y d h = go (bytes_eq x e.name) refl h (find_changed x f names es y d)
  where
    -- at the entry, which was left or changed
    at_it : (c : EntryTree) → (e ≡ c) ⊎ ((f e ≡ c) × (find x (e ∷ es) ≡ Some e)) → bytes_eq y e.name ≡ true → c ≡ d → Changed x f (e ∷ es) y d
    at_it c is q same = record { entry = e; found = ap (λ b. if b then Some e else find y es) q; is = subst (λ z. (e ≡ z) ⊎ ((f e ≡ z) × (find x (e ∷ es) ≡ Some e))) same is }

    kept : bytes_eq y e.name ≡ false → find y es ≡ Some d → Changed x f (e ∷ es) y d
    kept q z = record { entry = d; found = ap (λ b. if b then Some e else find y es) q ∙ z; is = inl refl }

    behind : bytes_eq x e.name ≡ false → bytes_eq y e.name ≡ false → Changed x f es y d → Changed x f (e ∷ es) y d
    behind o q r = record { entry = r.entry; found = ap (λ b. if b then Some e else find y es) q ∙ r.found; is = elim r.is [ inl a ↦ inl a | inr w ↦ inr (w.0, ap (λ b. if b then Some e else find x es) o ∙ w.1) ] }

    changed_here : bytes_eq x e.name ≡ true → (b : Bool) → bytes_eq y e.name ≡ b → (if b then Some (f e) else find y es) ≡ Some d → Changed x f (e ∷ es) y d
    changed_here o true q k = let same : f e ≡ d = cc in at_it (f e) (inr (refl, ap (λ b. if b then Some e else find x es) o)) q same
    changed_here o false q k = kept q k

    left_here : bytes_eq x e.name ≡ false → (b : Bool) → bytes_eq y e.name ≡ b → (if b then Some e else find y (changed x f es)) ≡ Some d → (find y (changed x f es) ≡ Some d → Changed x f es y d) → Changed x f (e ∷ es) y d
    left_here o true q k ih = let same : e ≡ d = cc in at_it e (inl refl) q same
    left_here o false q k ih = behind o q (ih k)

    go : (b : Bool) → bytes_eq x e.name ≡ b → find y (if b then f e ∷ es else e ∷ changed x f es) ≡ Some d → (find y (changed x f es) ≡ Some d → Changed x f es y d) → Changed x f (e ∷ es) y d
    go true o k ih = changed_here o (bytes_eq y e.name) refl (ap (λ n. if bytes_eq y n then Some (f e) else find y es) (sym (names e)) ∙ k)
    go false o k ih = left_here o (bytes_eq y e.name) refl k ih

changed_found : (G : EntryTree → Type 0) (x : List ℕ) (f : EntryTree → EntryTree) → ((e : EntryTree) → (f e).name ≡ e.name) → ((e : EntryTree) → G e → G (f e)) → (es : List EntryTree) → AllFound G es → AllFound G (changed x f es)
changed_found G x f names keeps es all y d h =
    let r = find_changed x f names es y d h in
    let g = all y r.entry r.found in
    elim r.is [ inl a ↦ subst G a g | inr b ↦ subst G b.0 (keeps r.entry g) ]

-- ---- a module

same_name : (w : Said) (e : EntryTree) → (with_said w e).name ≡ e.name
same_name (Typed s) e = refl
same_name (Shaped line b bs) e = refl
same_name (Shared line) e = refl
same_name Parameter e = refl
same_name Saved e = refl
same_name Initial e = refl
same_name Nothing e = refl

module _ (G : EntryTree → Type 0) (new : (x : List ℕ) (line : ℕ) → G (fresh x line)) (as_dummy : (n : ℕ) (e : EntryTree) → G e → G (with_dummy n e)) (said : (w : Said) (e : EntryTree) → G e → G (with_said w e)) where
  more : (x : List ℕ) (line : ℕ) (es : List EntryTree) → AllFound G es → AllFound G (seen x line es)
  more = seen_found G new

  more_said : (x : List ℕ) (w : Said) (es : List EntryTree) → AllFound G es → AllFound G (changed x (with_said w) es)
  more_said x w es all = changed_found G x (with_said w) (same_name w) (said w) es all

  dummies_found : (xs : List (List ℕ)) (n line : ℕ) (t : Told) → AllFound G t.entries → AllFound G (dummies_told xs n line t).entries
  dummies_found [] n line t all = all
  dummies_found (x ∷ xs) n line t all = dummies_found xs (suc n) line (dummy_told x n line t) (changed_found G x (with_dummy n) (λ e. refl) (as_dummy n) (seen x line t.entries) (more x line t.entries all))

  pub table_found : (at : LineTable) (m : ModuleTree) → AllFound G (table_of at m).entries
  table_found at m =
      let fs = arrays_named m.decls in
      let t = dummies_told m.dummies 1 (line_or at Title 0) no_names in
      let u = title_told at m in
      stmts_keep (AllFound G) more more_said fs at m.body 0 (decls_told fs at m.decls 0 u).entries
      (decls_keep (AllFound G) more more_said fs at m.decls 0 u (form_keeps (AllFound G) more more_said fs m.function m.name (line_or at Title 0) t (dummies_found m.dummies 1 (line_or at Title 0) no_names (none_found G))))

  -- with the values that PARAMETER gives
  module _ (as_value : (c : Constant) (e : EntryTree) → G e → G (with_value c e)) where
    value_found : (x : List ℕ) (c : Constant) (es : List EntryTree) → AllFound G es → AllFound G (changed x (with_value c) es)
    value_found x c es all = changed_found G x (with_value c) (λ e. refl) (as_value c) es all

    typed_found : (k : Kind) (x : List ℕ) (c : Constant) (line : ℕ) (v : Valued) → AllFound G v.table.entries → AllFound G (given_typed k x c line v).table.entries
    typed_found Int x (constant.Int i) line v d = value_found x (constant.Int i) v.table.entries d
    typed_found Int x (constant.Log b) line v d = d
    typed_found Log x (constant.Int i) line v d = d
    typed_found Log x (constant.Log b) line v d = value_found x (constant.Log b) v.table.entries d
    typed_found Real x c line v d = d

    const_value_found : (x : List ℕ) (w : ConstantValue) (line : ℕ) (v : Valued) → AllFound G v.table.entries → AllFound G (given_const_value x w line v).table.entries
    const_value_found x Varies line v d = d
    const_value_found x Faults line v d = d
    const_value_found x (Is c) line v d = typed_found (kind_in v.table x) x c line v d

    chosen_found : (b : Bool) (s : SettingTree) (line : ℕ) (v : Valued) → AllFound G v.table.entries → AllFound G (chosen b s line v).table.entries
    chosen_found true s line v d = d
    chosen_found false s line v d = const_value_found s.name (const_value (value_among v.table.entries) s.value) line (judged s line v) d

    setting_found : (s : SettingTree) (line : ℕ) (v : Valued) → AllFound G v.table.entries → AllFound G (setting_valued s line v).table.entries
    setting_found s line v d = subst (λ (z : Valued). AllFound G z.table.entries) (sym (as_chosen s line v)) (chosen_found (is_taken s v) s line v d)

    settings_found : (ss : List SettingTree) (line : ℕ) (v : Valued) → AllFound G v.table.entries → AllFound G (settings_valued ss line v).table.entries
    settings_found [] line v d = d
    settings_found (s ∷ ss) line v d = settings_found ss line (setting_valued s line v) (setting_found s line v d)

    decl_found : (x : DeclTree) (line : ℕ) (v : Valued) → AllFound G v.table.entries → AllFound G (decl_valued x line v).table.entries
    decl_found (decl.parameter ss) line v d = settings_found ss line v d
    decl_found (decl.implicit ps) line v d = d
    decl_found (decl.integer es) line v d = d
    decl_found (decl.logical es) line v d = d
    decl_found (decl.dimension es) line v d = d
    decl_found (decl.common cs) line v d = d
    decl_found (decl.equivalence gs) line v d = d
    decl_found (decl.save is) line v d = d
    decl_found (decl.initial gs) line v d = d

    values_found : (at : LineTable) (xs : List DeclTree) (k : ℕ) (v : Valued) → AllFound G v.table.entries → AllFound G (decls_valued at xs k v).table.entries
    values_found at [] k v d = d
    values_found at (x ∷ xs) k v d = values_found at xs (k + 1) (decl_valued x (line_or at (Decl k) 0) v) (decl_found x (line_or at (Decl k) 0) v d)

    pub names_found : (p : ParsedTree) → AllFound G (names_in p).entries
    unfolding valued
    names_found p = values_found (lines_in p) p.module_read.decls 0 (record { table = table_of (lines_in p) p.module_read; found = check_names (lines_in p) p.module_read }) (table_found (lines_in p) p.module_read)
