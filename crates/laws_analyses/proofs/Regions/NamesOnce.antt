-- The names of the symbols of a table differ.
use Rattle.std.proofs.Common.{◌≡◌, ℕ, zero, suc, ◌+◌, ◌-◌, Bool, true, false, List, [], ◌∷◌, ◌++◌, ◌||◌, Some, Ok, refl, sym, ap, ◌∙◌, subst, arith}
use Rattle.std.specs.Prelude.{if◌then◌else◌, bytes_eq, is_some, slice_get}
use Rattle.std.specs.List.{list_any}
use Rattle.std.proofs.lemmas.Bool.{or_parts, or_from}
use Rattle.std.proofs.lemmas.Slice.Eq.{bytes_eq-Decides}
use Rattle.f77_ast.specs.DeclTrees.{SettingTree, DeclTree, ModuleTree, ParsedTree}
use Rattle.f77_ast.specs.DeclTrees as decl
use Rattle.f77_ast.specs.declared.constant.Constant.{Constant}
use Rattle.f77_ast.specs.declared.constant.Constant.TheVariants as constant
use Rattle.f77_ast.specs.declared.constant.ConstantValue.{ConstantValue}
use Rattle.f77_ast.specs.declared.constant.ConstantValue.TheVariants.{Is, Faults, Varies}
use Rattle.f77_ast.specs.Constants.{const_value}
use Rattle.f77_ast.specs.Symbols.{SymbolTree, number_from}
use Rattle.f77_ast.specs.Shared.{symbol_at}
use Rattle.f77_names.specs.declared.kinds.Kind.{Kind}
use Rattle.f77_names.specs.declared.kinds.Kind.TheVariants.{Int, Log, Real}
use Rattle.f77_names.specs.declared.lines.Sited.TheVariants.{Title, Decl}
use Rattle.f77_names.specs.Lines.{LineTable, line_or}
use Rattle.f77_names.specs.Functions.{arrays_named}
use Rattle.f77_names.specs.Entries.{EntryTree, fresh, find, seen, changed, with_dummy, with_value, value_among}
use Rattle.f77_names.specs.Declaring.{Told, dummy_told, dummies_told, decls_told}
use Rattle.f77_names.specs.Tables.{no_names, title_told, table_of, check_names, kind_in}
use Rattle.f77_checks.specs.Parameters.{Valued, given_typed, given_const_value, setting_valued, settings_valued, decl_valued, decls_valued}
use Rattle.storage_layout.specs.Symbols.{valued, symbols_of}
use Rattle.storage_layout.specs.Table.{Layout, symbol_of, symbols_from}
use Rattle.f77_meaning.specs.Modules.{symbol_names}
use Rattle.laws_programs.proofs.SymbolTables.Answers.{answered_by, lines_in, names_in, layout_in}
use Rattle.laws_programs.proofs.SymbolTables.KeptNames.{Said, with_said, form_keeps, decls_keep, stmts_keep, Typed, Shaped, Shared, Parameter, Saved, Initial, Nothing}
use Rattle.laws_programs.proofs.SymbolTables.Values.{chosen, as_chosen, is_taken, judged}
use Rattle.laws_analyses.proofs.Calls.TableLaws.{numbered_at}
use Rattle.laws_programs.proofs.Storage.ParameterLaws.{same_name}
use Rattle.fx_lists.proofs.Lists.{other_way}

abbrev named : List ℕ → List EntryTree → Bool
named x es = list_any (λ (e : EntryTree). bytes_eq x e.name) es

-- each name stands once
abbrev Alone : List EntryTree → Type 0
Alone [] = Unit {0}
Alone (e ∷ es) = (named e.name es ≡ false) × Alone es

found_named : (x : List ℕ) (es : List EntryTree) → is_some (find x es) ≡ named x es
unfolding find
found_named x [] = refl
found_named x (e ∷ es) = go (bytes_eq x e.name) (found_named x es)
  where
    go : (b : Bool) → is_some (find x es) ≡ named x es → is_some (if b then Some e else find x es) ≡ (b || named x es)
    go true ih = refl
    go false ih = ih

named_more : (y : List ℕ) (es : List EntryTree) (e : EntryTree) → named y es ≡ false → bytes_eq y e.name ≡ false → named y (es ++ e ∷ []) ≡ false
named_more y [] e h k = or_from (bytes_eq y e.name) false k refl
named_more y (d ∷ es) e h k = let q = or_parts (bytes_eq y d.name) (named y es) h in or_from (bytes_eq y d.name) (named y (es ++ e ∷ [])) q.0 (named_more y es e q.1 k)

alone_more : (es : List EntryTree) (e : EntryTree) → Alone es → named e.name es ≡ false → Alone (es ++ e ∷ [])
alone_more [] e h k = (refl, tt)
alone_more (d ∷ es) e h k =
    let q = or_parts (bytes_eq e.name d.name) (named e.name es) k in
    (named_more d.name es e h.0 (other_way e.name d.name q.0), alone_more es e h.1 q.1)

seen_alone : (x : List ℕ) (line : ℕ) (es : List EntryTree) → Alone es → Alone (seen x line es)
seen_alone x line es h = go (is_some (find x es)) refl
  where
    go : (b : Bool) → is_some (find x es) ≡ b → Alone (if b then es else es ++ fresh x line ∷ [])
    go true q = h
    go false q = alone_more es (fresh x line) h (sym (found_named x es) ∙ q)

module _ (x : List ℕ) (f : EntryTree → EntryTree) (names : (e : EntryTree) → (f e).name ≡ e.name) where
  named_changed : (y : List ℕ) (es : List EntryTree) → named y (changed x f es) ≡ named y es
  named_changed y [] = refl
  named_changed y (e ∷ es) = go (bytes_eq x e.name) (named_changed y es)
    where
      go : (b : Bool) → named y (changed x f es) ≡ named y es → named y (if b then f e ∷ es else e ∷ changed x f es) ≡ (bytes_eq y e.name || named y es)
      go true ih = ap (λ n. bytes_eq y n || named y es) (names e)
      go false ih = ap (λ b. bytes_eq y e.name || b) ih

  changed_alone : (es : List EntryTree) → Alone es → Alone (changed x f es)
  changed_alone [] h = tt
  changed_alone (e ∷ es) h = go (bytes_eq x e.name) (changed_alone es h.1)
    where
      go : (b : Bool) → Alone (changed x f es) → Alone (if b then f e ∷ es else e ∷ changed x f es)
      go true ih = (ap (λ n. named n es) (names e) ∙ h.0, h.1)
      go false ih = (named_changed e.name es ∙ h.0, ih)

said_alone : (x : List ℕ) (w : Said) (es : List EntryTree) → Alone es → Alone (changed x (with_said w) es)
said_alone x w es h = changed_alone x (with_said w) (same_name w) es h

dummies_alone : (xs : List (List ℕ)) (n line : ℕ) (t : Told) → Alone t.entries → Alone (dummies_told xs n line t).entries
dummies_alone [] n line t h = h
dummies_alone (x ∷ xs) n line t h = dummies_alone xs (suc n) line (dummy_told x n line t) (changed_alone x (with_dummy n) (λ e. refl) (seen x line t.entries) (seen_alone x line t.entries h))

table_alone : (at : LineTable) (m : ModuleTree) → Alone (table_of at m).entries
table_alone at m =
    let fs = arrays_named m.decls in
    let t = dummies_told m.dummies 1 (line_or at Title 0) no_names in
    let u = title_told at m in
    stmts_keep Alone seen_alone said_alone fs at m.body 0 (decls_told fs at m.decls 0 u).entries
    (decls_keep Alone seen_alone said_alone fs at m.decls 0 u (form_keeps Alone seen_alone said_alone fs m.function m.name (line_or at Title 0) t (dummies_alone m.dummies 1 (line_or at Title 0) no_names tt)))

-- ---- with the values that PARAMETER gives

value_alone : (x : List ℕ) (c : Constant) (es : List EntryTree) → Alone es → Alone (changed x (with_value c) es)
value_alone x c es h = changed_alone x (with_value c) (λ e. refl) es h

typed_alone : (k : Kind) (x : List ℕ) (c : Constant) (line : ℕ) (v : Valued) → Alone v.table.entries → Alone (given_typed k x c line v).table.entries
typed_alone Int x (constant.Int i) line v d = value_alone x (constant.Int i) v.table.entries d
typed_alone Int x (constant.Log b) line v d = d
typed_alone Log x (constant.Int i) line v d = d
typed_alone Log x (constant.Log b) line v d = value_alone x (constant.Log b) v.table.entries d
typed_alone Real x c line v d = d

const_value_alone : (x : List ℕ) (w : ConstantValue) (line : ℕ) (v : Valued) → Alone v.table.entries → Alone (given_const_value x w line v).table.entries
const_value_alone x Varies line v d = d
const_value_alone x Faults line v d = d
const_value_alone x (Is c) line v d = typed_alone (kind_in v.table x) x c line v d

chosen_alone : (b : Bool) (s : SettingTree) (line : ℕ) (v : Valued) → Alone v.table.entries → Alone (chosen b s line v).table.entries
chosen_alone true s line v d = d
chosen_alone false s line v d = const_value_alone s.name (const_value (value_among v.table.entries) s.value) line (judged s line v) d

setting_alone : (s : SettingTree) (line : ℕ) (v : Valued) → Alone v.table.entries → Alone (setting_valued s line v).table.entries
setting_alone s line v d = subst (λ (z : Valued). Alone z.table.entries) (sym (as_chosen s line v)) (chosen_alone (is_taken s v) s line v d)

settings_alone : (ss : List SettingTree) (line : ℕ) (v : Valued) → Alone v.table.entries → Alone (settings_valued ss line v).table.entries
settings_alone [] line v d = d
settings_alone (s ∷ ss) line v d = settings_alone ss line (setting_valued s line v) (setting_alone s line v d)

decl_alone : (x : DeclTree) (line : ℕ) (v : Valued) → Alone v.table.entries → Alone (decl_valued x line v).table.entries
decl_alone (decl.parameter ss) line v d = settings_alone ss line v d
decl_alone (decl.implicit ps) line v d = d
decl_alone (decl.integer es) line v d = d
decl_alone (decl.logical es) line v d = d
decl_alone (decl.dimension es) line v d = d
decl_alone (decl.common cs) line v d = d
decl_alone (decl.equivalence gs) line v d = d
decl_alone (decl.save is) line v d = d
decl_alone (decl.initial gs) line v d = d

values_alone : (at : LineTable) (xs : List DeclTree) (k : ℕ) (v : Valued) → Alone v.table.entries → Alone (decls_valued at xs k v).table.entries
values_alone at [] k v d = d
values_alone at (x ∷ xs) k v d = values_alone at xs (k + 1) (decl_valued x (line_or at (Decl k) 0) v) (decl_alone x (line_or at (Decl k) 0) v d)

valued_alone : (at : LineTable) (m : ModuleTree) → Alone (valued at m).table.entries
unfolding valued
valued_alone at m = values_alone at m.decls 0 (record { table = table_of at m; found = check_names at m }) (table_alone at m)

-- ---- symbols

in_names : (x : List ℕ) (ss : List SymbolTree) → Bool
in_names x ss = list_any (λ (s : SymbolTree). bytes_eq x s.name) ss

symbol_named_so : (l : Layout) (n : ℕ) (es : List EntryTree) (x : List ℕ) (i : ℕ) (s : SymbolTree) → named x es ≡ false → slice_get (symbols_from l n es) i ≡ Some s → bytes_eq x s.name ≡ false
symbol_named_so l n [] x i s h e = cc
symbol_named_so l n (d ∷ es) x zero s h e =
    let same : symbol_of l n d ≡ s = cc in
    ap (λ (z : SymbolTree). bytes_eq x z.name) (sym same) ∙ (or_parts (bytes_eq x d.name) (named x es) h).0
symbol_named_so l n (d ∷ es) x (suc i) s h e = symbol_named_so l (n + 1) es x i s (or_parts (bytes_eq x d.name) (named x es) h).1 e

number_alone : (l : Layout) (n j : ℕ) (es : List EntryTree) (i : ℕ) (s : SymbolTree) → Alone es → slice_get (symbols_from l n es) i ≡ Some s → number_from j (symbol_names (symbols_from l n es)) s.name ≡ Some (j + i)
number_alone l n j [] i s h e = cc
number_alone l n j (d ∷ es) zero s h e =
    let same : symbol_of l n d ≡ s = cc in
    let here : bytes_eq s.name d.name ≡ true = (bytes_eq-Decides s.name d.name).1 (ap (λ (z : SymbolTree). z.name) (sym same)) in
    let none : j ≡ j + 0 = omega arith in
    ap (λ b. if b then Some j else number_from (suc j) (symbol_names (symbols_from l (n + 1) es)) s.name) here ∙ ap Some none
number_alone l n j (d ∷ es) (suc i) s h e =
    let off : bytes_eq s.name d.name ≡ false = other_way d.name s.name (symbol_named_so l (n + 1) es d.name i s h.0 e) in
    let next : suc j + i ≡ j + suc i = omega arith in
    ap (λ b. if b then Some j else number_from (suc j) (symbol_names (symbols_from l (n + 1) es)) s.name) off ∙ (number_alone l (n + 1) (suc j) es i s h.1 e ∙ ap Some next)

-- a symbol has the number of its name
pub numbered_once : (p : ParsedTree) (ss : List SymbolTree) → symbols_of p ≡ Ok ss → (n : ℕ) (s : SymbolTree) → symbol_at ss n ≡ Some s → number_from 1 (symbol_names ss) s.name ≡ Some n
numbered_once p ss laid n s e =
    let a = answered_by p ss laid in
    let r = numbered_at ss n s e in
    let all = valued_alone (lines_in p) p.module_read in
    let q = r.1 in
    let next : 1 + (n - 1) ≡ n = omega (arith, q) in
    subst (λ (z : List SymbolTree). number_from 1 (symbol_names z) s.name ≡ Some (1 + (n - 1))) (sym a.table) (number_alone (layout_in p) 0 1 (names_in p).entries (n - 1) s all (subst (λ (z : List SymbolTree). slice_get z (n - 1) ≡ Some s) a.table r.0)) ∙ ap Some next
