-- The names of a module are all different.
use Rattle.std.proofs.Common.{◌≡◌, ℕ, zero, suc, ◌+◌, Bool, true, false, List, [], ◌∷◌, ◌++◌, length, Option, Some, None, ◌⊎◌, inl, inr, refl, sym, ap, ◌∙◌, subst, arith}
use Rattle.std.specs.Prelude.{slice_get, bytes_eq, is_some, if◌then◌else◌}
use Rattle.std.proofs.lemmas.Slice.Eq.{bytes_eq-Decides}
use Rattle.f77_ast.specs.DeclTrees.{ParsedTree}
use Rattle.f77_ast.specs.Symbols.{number_from}
use Rattle.f77_ast.proofs.NumbersLaws.{number_from-append}
use Rattle.f77_names.specs.declared.lines.Sited.TheVariants.{Title}
use Rattle.f77_names.specs.Lines.{line_or}
use Rattle.f77_names.specs.Functions.{arrays_named}
use Rattle.f77_names.specs.Entries.{EntryTree, entry_names, fresh, find, seen, changed, with_dummy, with_value}
use Rattle.f77_names.specs.Declaring.{Told, dummy_told, dummies_told, decls_told}
use Rattle.f77_names.specs.Tables.{no_names, title_told, table_of, check_names}
use Rattle.storage_layout.specs.Symbols.{valued}
use Rattle.laws_programs.proofs.SymbolTables.KeptNames.{Said, with_said, Typed, Shaped, Shared, Parameter, Saved, Initial, Nothing, form_keeps, decls_keep, stmts_keep}
use Rattle.laws_programs.proofs.SymbolTables.Answers.{lines_in, names_in}
use Rattle.laws_programs.proofs.Layouts.ValueKeeps.{values_keep}
use Rattle.laws_programs.proofs.Storage.ParameterLaws.{same_name}

-- each name has the number of its place
abbrev pub Differ : List (List ℕ) → Type 0
Differ xs = (j : ℕ) (x : List ℕ) → slice_get xs j ≡ Some x → number_from 0 xs x ≡ Some j

abbrev pub NamesDiffer : List EntryTree → Type 0
NamesDiffer es = Differ (entry_names es)

-- ---- one name more

get_split : {X : Type 0} (xs : List X) (v : X) (j : ℕ) (x : X) → slice_get (xs ++ v ∷ []) j ≡ Some x → (slice_get xs j ≡ Some x) ⊎ ((j ≡ length xs) × (v ≡ x))
get_split [] v zero x e = let same : v ≡ x = cc in inr (refl, same)
get_split [] v (suc zero) x e = cc
get_split [] v (suc (suc j)) x e = cc
get_split (y ∷ xs) v zero x e = inl e
get_split (y ∷ xs) v (suc j) x e = elim (get_split xs v j x e) [ inl a ↦ inl a | inr b ↦ inr (ap suc b.0, b.1) ]

differ_more : (xs : List (List ℕ)) (x : List ℕ) → number_from 0 xs x ≡ None → Differ xs → Differ (xs ++ x ∷ [])
differ_more xs x none h j y e = number_from-append 0 xs x y none ∙ go (get_split xs x j y e)
  where
    inner : (c : Bool) → bytes_eq x y ≡ c → slice_get xs j ≡ Some y → (if c then Some (0 + length xs) else number_from 0 xs y) ≡ Some j
    inner true s q =
        let same = (bytes_eq-Decides x y).0 s in
        let z : Some j ≡ None = sym (h j y q) ∙ ap (number_from 0 xs) (sym same) ∙ none in
        cc
    inner false s q = h j y q

    go : (slice_get xs j ≡ Some y) ⊎ ((j ≡ length xs) × (x ≡ y)) → (if bytes_eq x y then Some (0 + length xs) else number_from 0 xs y) ≡ Some j
    go (inl q) = inner (bytes_eq x y) refl q
    go (inr q) =
        let last = q.0 in
        let z : 0 + length xs ≡ j = omega (arith, last) in
        ap (λ c. if c then Some (0 + length xs) else number_from 0 xs y) ((bytes_eq-Decides x y).1 q.1) ∙ ap Some z

none_there : (n : ℕ) (x : List ℕ) (es : List EntryTree) → find x es ≡ None → number_from n (entry_names es) x ≡ None
unfolding find
none_there n x [] h = refl
none_there n x (e ∷ es) h = go (bytes_eq x e.name) h (none_there (suc n) x es)
  where
    go : (c : Bool) → (if c then Some e else find x es) ≡ None → (find x es ≡ None → number_from (suc n) (entry_names es) x ≡ None) → (if c then Some n else number_from (suc n) (entry_names es) x) ≡ None
    go true k ih = cc
    go false k ih = ih k

pub names_more : (es : List EntryTree) (z : EntryTree) → entry_names (es ++ z ∷ []) ≡ entry_names es ++ z.name ∷ []
names_more [] z = refl
names_more (e ∷ es) z = ap (λ ys. e.name ∷ ys) (names_more es z)

seen_differ : (x : List ℕ) (line : ℕ) (es : List EntryTree) → NamesDiffer es → NamesDiffer (seen x line es)
seen_differ x line es h = go (is_some (find x es)) refl
  where
    none_of : (o : Option EntryTree) → is_some o ≡ false → o ≡ None
    none_of None q = refl
    none_of (Some e) q = cc

    go : (b : Bool) → is_some (find x es) ≡ b → NamesDiffer (if b then es else es ++ fresh x line ∷ [])
    go true q = h
    go false q = subst Differ (sym (names_more es (fresh x line))) (differ_more (entry_names es) x (none_there 0 x es (none_of (find x es) q)) h)

-- ---- more is said of a name

pub names_changed : (x : List ℕ) (g : EntryTree → EntryTree) → ((e : EntryTree) → (g e).name ≡ e.name) → (es : List EntryTree) → entry_names (changed x g es) ≡ entry_names es
names_changed x g names [] = refl
names_changed x g names (e ∷ es) = go (bytes_eq x e.name) (names_changed x g names es)
  where
    go : (b : Bool) → entry_names (changed x g es) ≡ entry_names es → entry_names (if b then g e ∷ es else e ∷ changed x g es) ≡ entry_names (e ∷ es)
    go true ih = ap (λ n. n ∷ entry_names es) (names e)
    go false ih = ap (λ ys. e.name ∷ ys) ih

changed_differ : (x : List ℕ) (g : EntryTree → EntryTree) → ((e : EntryTree) → (g e).name ≡ e.name) → (es : List EntryTree) → NamesDiffer es → NamesDiffer (changed x g es)
changed_differ x g names es h = subst Differ (sym (names_changed x g names es)) h

said_differ : (x : List ℕ) (w : Said) (es : List EntryTree) → NamesDiffer es → NamesDiffer (changed x (with_said w) es)
said_differ x w es h = changed_differ x (with_said w) (same_name w) es h

-- ---- a module

none_differ : Differ []
none_differ zero x e = cc
none_differ (suc j) x e = cc

dummies_differ : (xs : List (List ℕ)) (n line : ℕ) (t : Told) → NamesDiffer t.entries → NamesDiffer (dummies_told xs n line t).entries
dummies_differ [] n line t h = h
dummies_differ (x ∷ xs) n line t h = dummies_differ xs (suc n) line (dummy_told x n line t) (changed_differ x (with_dummy n) (λ e. refl) (seen x line t.entries) (seen_differ x line t.entries h))

pub names_differ : (p : ParsedTree) → NamesDiffer (names_in p).entries
unfolding valued
names_differ p =
    let at = lines_in p in
    let m = p.module_read in
    let fs = arrays_named m.decls in
    let t = dummies_told m.dummies 1 (line_or at Title 0) no_names in
    let u = title_told at m in
    values_keep NamesDiffer (λ x c es h. changed_differ x (with_value c) (λ e. refl) es h) at m.decls 0 (record { table = table_of at m; found = check_names at m })
    (stmts_keep NamesDiffer seen_differ said_differ fs at m.body 0 (decls_told fs at m.decls 0 u).entries
    (decls_keep NamesDiffer seen_differ said_differ fs at m.decls 0 u (form_keeps NamesDiffer seen_differ said_differ fs m.function m.name (line_or at Title 0) t (dummies_differ m.dummies 1 (line_or at Title 0) no_names none_differ))))
