-- The names of a table are distinct: a name is put behind those that are there unless it is one of them, and what is said of it leaves the names.
use Rattle.std.proofs.Common.{◌≡◌, ℕ, suc, Bool, true, false, List, [], ◌∷◌, ◌++◌, Some, refl, sym, subst}
use Rattle.std.specs.Prelude.{if◌then◌else◌, bytes_eq, is_some}
use Rattle.std.specs.List.{IsDistinct, AllByRecursion}
use Rattle.f77_ast.specs.DeclTrees.{ModuleTree}
use Rattle.f77_names.specs.declared.lines.Sited.TheVariants.{Title}
use Rattle.f77_names.specs.Lines.{LineTable, line_or}
use Rattle.f77_names.specs.Functions.{arrays_named}
use Rattle.f77_names.specs.Entries.{EntryTree, fresh, find, entry_names, seen, changed, with_dummy}
use Rattle.f77_names.specs.Declaring.{Told, dummy_told, dummies_told, decls_told}
use Rattle.f77_names.specs.Tables.{no_names, title_told, table_of}
use Rattle.f77_meaning.specs.Modules.{symbol_names}
use Rattle.laws_programs.proofs.SymbolTables.KeptNames.{Said, with_said, form_keeps, decls_keep, stmts_keep}
use Rattle.laws_programs.proofs.SymbolTables.Answers.{lines_in}
use Rattle.laws_lines.specs.NameLaws.{NamesAreDistinct}
use Rattle.laws_lines.proofs.SymbolNames.{said_stay, names_of_symbols}
use Rattle.fx_lists.proofs.Lists.{other_way as turned}
use Rattle.laws_programs.proofs.Layouts.DifferLaws.{names_more, names_changed}

-- ---- distinct names

abbrev Apart : List ℕ → List (List ℕ) → Type 0
Apart x [] = Unit {0}
Apart x (y ∷ ys) = (bytes_eq x y ≡ false) × Apart x ys

abbrev Distinct : List (List ℕ) → Type 0
Distinct [] = Unit {0}
Distinct (x ∷ xs) = Apart x xs × Distinct xs

apart_is : (x : List ℕ) (ys : List (List ℕ)) → Apart x ys → AllByRecursion (λ y. bytes_eq x y ≡ false) ys
apart_is x [] h = tt
apart_is x (y ∷ ys) h = (h.0, apart_is x ys h.1)

distinct_is : (xs : List (List ℕ)) → Distinct xs → IsDistinct bytes_eq xs
unfolding IsDistinct
distinct_is [] h = tt
distinct_is (x ∷ xs) h = (apart_is x xs h.0, distinct_is xs h.1)

apart-last : (y x : List ℕ) (ys : List (List ℕ)) → Apart y ys → bytes_eq y x ≡ false → Apart y (ys ++ x ∷ [])
apart-last y x [] h e = (e, tt)
apart-last y x (z ∷ ys) h e = (h.0, apart-last y x ys h.1 e)

distinct-last : (x : List ℕ) (ys : List (List ℕ)) → Distinct ys → Apart x ys → Distinct (ys ++ x ∷ [])
distinct-last x [] h a = (tt, tt)
distinct-last x (y ∷ ys) h a = (apart-last y x ys h.0 (turned x y a.0), distinct-last x ys h.1 a.1)

-- ---- entries

-- the names of entries are distinct
abbrev AreApart : List EntryTree → Type 0
AreApart es = Distinct (entry_names es)

none_apart : (x : List ℕ) (es : List EntryTree) → is_some (find x es) ≡ false → Apart x (entry_names es)
unfolding find
none_apart x [] h = tt
none_apart x (e ∷ es) h = go (bytes_eq x e.name) refl h (none_apart x es)
  where
    go : (b : Bool) → bytes_eq x e.name ≡ b → is_some (if b then Some e else find x es) ≡ false → (is_some (find x es) ≡ false → Apart x (entry_names es)) → (bytes_eq x e.name ≡ false) × Apart x (entry_names es)
    go true q k ih = cc
    go false q k ih = (q, ih k)

seen_apart : (x : List ℕ) (line : ℕ) (es : List EntryTree) → AreApart es → AreApart (seen x line es)
seen_apart x line es d = go (is_some (find x es)) refl
  where
    go : (b : Bool) → is_some (find x es) ≡ b → AreApart (if b then es else es ++ fresh x line ∷ [])
    go true q = d
    go false q = subst Distinct (sym (names_more es (fresh x line))) (distinct-last x (entry_names es) d (none_apart x es q))

changed_apart : (x : List ℕ) (f : EntryTree → EntryTree) → ((e : EntryTree) → (f e).name ≡ e.name) → (es : List EntryTree) → AreApart es → AreApart (changed x f es)
changed_apart x f same es d = subst Distinct (sym (names_changed x f same es)) d

said_apart : (x : List ℕ) (w : Said) (es : List EntryTree) → AreApart es → AreApart (changed x (with_said w) es)
said_apart x w es d = subst Distinct (sym (said_stay x w es)) d

-- ---- the names of a module

dummies_apart : (xs : List (List ℕ)) (n line : ℕ) (t : Told) → AreApart t.entries → AreApart (dummies_told xs n line t).entries
dummies_apart [] n line t d = d
dummies_apart (x ∷ xs) n line t d = dummies_apart xs (suc n) line (dummy_told x n line t) (changed_apart x (with_dummy n) (λ e. refl) (seen x line t.entries) (seen_apart x line t.entries d))

table_apart : (at : LineTable) (m : ModuleTree) → AreApart (table_of at m).entries
table_apart at m =
    let fs = arrays_named m.decls in
    let t = dummies_told m.dummies 1 (line_or at Title 0) no_names in
    let u = title_told at m in
    stmts_keep AreApart seen_apart said_apart fs at m.body 0 (decls_told fs at m.decls 0 u).entries
    (decls_keep AreApart seen_apart said_apart fs at m.decls 0 u (form_keeps AreApart seen_apart said_apart fs m.function m.name (line_or at Title 0) t (dummies_apart m.dummies 1 (line_or at Title 0) no_names tt)))

-- ---- its symbols

pub names_are_distinct : NamesAreDistinct
names_are_distinct p ss e =
    distinct_is (symbol_names ss) (subst Distinct (sym (names_of_symbols p ss e)) (table_apart (lines_in p) p.module_read))
