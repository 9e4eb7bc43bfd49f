-- In a module that is not refused each PARAMETER has a value (ANSI X3.9-1978 §8.6).
use Rattle.std.proofs.Common.{◌≡◌, ◌⊎◌, inl, inr, ⊎_elim, ℕ, zero, suc, ◌+◌, ◌-◌, ◌≤◌, Bool, true, false, List, [], ◌∷◌, ◌++◌, map, Option, Some, None, arith, refl, sym, ap, ◌∙◌, subst, true≢false}
use Rattle.std.specs.Prelude.{if◌then◌else◌, bytes_eq, is_some, slice_get, ◌||◌}
use Rattle.std.proofs.lemmas.Slice.Eq.{bytes_eq-Decides}
use Rattle.f77_ast.specs.DeclTrees.{ExtentTree, SettingTree, DeclTree, ModuleTree, ParsedTree}
use Rattle.f77_ast.specs.DeclTrees as decl
use Rattle.f77_ast.specs.declared.constant.Constant.{Constant}
use Rattle.f77_ast.specs.declared.constant.Constant.TheVariants as constant
use Rattle.f77_ast.specs.declared.constant.ConstantValue.{ConstantValue}
use Rattle.f77_ast.specs.declared.constant.ConstantValue.TheVariants.{Is, Faults, Varies}
use Rattle.f77_ast.specs.Constants.{const_value}
use Rattle.fx_lists.specs.declared.code.Code.TheVariants.{BadParameter, CommonTwice, RealName}
use Rattle.fx_lists.specs.declared.refusal.Refusal.{Refusal}
use Rattle.fx_lists.specs.Refusals.{refuse_if}
use Rattle.f77_ast.specs.Symbols.{SymbolTree, number_from}
use Rattle.f77_names.specs.declared.functions.Function.{Function}
use Rattle.f77_names.specs.declared.kinds.Kind.{Kind}
use Rattle.f77_names.specs.declared.kinds.Kind.TheVariants.{Int, Log, Real}
use Rattle.f77_names.specs.declared.lines.Sited.TheVariants.{Decl, Title}
use Rattle.f77_names.specs.Lines.{LineTable, line_or}
use Rattle.f77_names.specs.Functions.{arrays_named}
use Rattle.f77_names.specs.Kinds.{kinds_of, kind_of_name}
use Rattle.f77_names.specs.Entries.{EntryTree, fresh, find, entry_names, seen, changed, with_dummy, with_value, as_parameter, of_entry, value_among}
use Rattle.f77_names.specs.Declaring.{Told, bound_of, dummy_told, dummies_told, decls_told}
use Rattle.f77_names.specs.Tables.{NameTable, no_names, title_told, entry_kind, is_real, kind_in, in_common_too, check_entry, check_entries, told_of, table_of, check_names}
use Rattle.f77_checks.specs.Parameters.{Valued, is_bad_parameter, given_typed, given_const_value, setting_valued, settings_valued, decl_valued, decls_valued}
use Rattle.storage_layout.specs.Symbols.{valued}
use Rattle.laws_programs.proofs.SymbolTables.Answers.{Answered, lines_in, names_in, found_none, values_none, names_none}
use Rattle.laws_programs.proofs.SymbolTables.DummiesTold.{found_in}
use Rattle.laws_programs.proofs.SymbolTables.FoundNames.{find_changed}
use Rattle.laws_programs.proofs.SymbolTables.KeptNames.{Said, with_said, Typed, Shaped, Shared, Parameter, Saved, Initial, Nothing}
use Rattle.laws_programs.proofs.SymbolTables.NameRefusals.{entries_back}
use Rattle.laws_programs.proofs.SymbolTables.Values.{chosen, as_chosen, is_taken, judged, shape_noted, settings_back, values_back}
use Rattle.laws_programs.proofs.Layouts.DifferLaws.{names_differ}
use Rattle.laws_marks.proofs.InMarks.{IsMild, IsSet, Sets, SomeSets, form_keeps, decls_keep, stmts_keep}
use Rattle.laws_programs.proofs.Storage.ParameterLaws.{same_name, valued_kind}
use Rattle.fx_lists.proofs.Refused.{none_refused}
use Rattle.f77_ast.proofs.NumberedNames.{number_from-least}

-- ---- names that are found

-- what is found has the name
found_name : (x : List ℕ) (es : List EntryTree) (e : EntryTree) → find x es ≡ Some e → x ≡ e.name
unfolding find
found_name x [] e h = cc
found_name x (f ∷ es) e h = go (bytes_eq x f.name) refl h (λ i. found_name x es e i)
  where
    go : (b : Bool) → bytes_eq x f.name ≡ b → (if b then Some f else find x es) ≡ Some e → (find x es ≡ Some e → x ≡ e.name) → x ≡ e.name
    go true q i ih = (let same : f ≡ e = cc in (bytes_eq-Decides x f.name).0 q ∙ ap (λ (z : EntryTree). z.name) same)
    go false q i ih = ih i

changed_here : (x : List ℕ) (f : EntryTree → EntryTree) → ((e : EntryTree) → (f e).name ≡ e.name) → (es : List EntryTree) (e : EntryTree) → find x es ≡ Some e → find x (changed x f es) ≡ Some (f e)
unfolding find
changed_here x f names [] e h = cc
changed_here x f names (d ∷ es) e h = go (bytes_eq x d.name) refl h (λ i. changed_here x f names es e i)
  where
    go : (b : Bool) → bytes_eq x d.name ≡ b → (if b then Some d else find x es) ≡ Some e → (find x es ≡ Some e → find x (changed x f es) ≡ Some (f e)) → find x (if b then f d ∷ es else d ∷ changed x f es) ≡ Some (f e)
    go true q i ih =
        let same : d ≡ e = cc in
        ap (λ n. if bytes_eq x n then Some (f d) else find x es) (names d) ∙ (ap (λ b. if b then Some (f d) else find x es) q ∙ ap (λ (z : EntryTree). Some (f z)) same)
    go false q i ih = ap (λ b. if b then Some d else find x (changed x f es)) q ∙ ih i

-- by its place, where each name has the number of its place
found_at : (k : ℕ) (es : List EntryTree) (x : List ℕ) (j : ℕ) (e : EntryTree) → number_from k (entry_names es) x ≡ Some j → slice_get es (j - k) ≡ Some e → find x es ≡ Some e
unfolding find
found_at k [] x j e n s = cc
found_at k (d ∷ es) x j e n s = go (bytes_eq x d.name) n (λ i q. found_at (suc k) es x j e i q)
  where
    go : (b : Bool) → (if b then Some k else number_from (suc k) (entry_names es) x) ≡ Some j → (number_from (suc k) (entry_names es) x ≡ Some j → slice_get es (j - suc k) ≡ Some e → find x es ≡ Some e) → (if b then Some d else find x es) ≡ Some e
    go true i ih =
        let same : k ≡ j = cc in
        let none : j - k ≡ zero = omega (arith, same) in
        ap (λ i. slice_get (d ∷ es) i) (sym none) ∙ s
    go false i ih =
        let low = number_from-least (suc k) j (entry_names es) x i in
        let one : j - k ≡ suc (j - suc k) = omega (arith, low) in
        ih i (ap (λ i. slice_get (d ∷ es) i) (sym one) ∙ s)

-- ---- PARAMETERs are names that PARAMETER statements set

same_mark : (w : Said) → IsMild w → (e : EntryTree) → (with_said w e).parameter ≡ e.parameter
same_mark (Typed s) q e = refl
same_mark (Shaped line b bs) q e = absurd q
same_mark (Shared line) q e = refl
same_mark Parameter q e = absurd q
same_mark Saved q e = refl
same_mark Initial q e = refl
same_mark Nothing q e = refl

module _ (S : List ℕ → Type 0) where
  abbrev Marked : List EntryTree → Type 0
  Marked es = (y : List ℕ) (e : EntryTree) → find y es ≡ Some e → e.parameter ≡ true → S y

  none_marked : Marked []
  unfolding find
  none_marked y e h m = cc

  seen_marked : (x : List ℕ) (line : ℕ) (es : List EntryTree) → Marked es → Marked (seen x line es)
  seen_marked x line es h = go (is_some (find x es))
    where
      go : (b : Bool) → Marked (if b then es else es ++ fresh x line ∷ [])
      go true = h
      go false = λ y e i m. ⊎_elim (λ a. h y e a m) (λ a. absurd (true≢false (sym (ap (λ (z : EntryTree). z.parameter) a ∙ m)))) (found_in y es (fresh x line) e i)

  mild_marked : (x : List ℕ) (f : EntryTree → EntryTree) → ((e : EntryTree) → (f e).name ≡ e.name) → ((e : EntryTree) → (f e).parameter ≡ e.parameter) → (es : List EntryTree) → Marked es → Marked (changed x f es)
  mild_marked x f names marks es h y d i m =
      let r = find_changed x f names es y d i in
      ⊎_elim (λ a. h y r.entry r.found (ap (λ (z : EntryTree). z.parameter) a ∙ m)) (λ a. h y r.entry r.found (sym (marks r.entry) ∙ (ap (λ (z : EntryTree). z.parameter) a.0 ∙ m))) r.is

  said_marked : (x : List ℕ) (w : Said) → IsMild w → (es : List EntryTree) → Marked es → Marked (changed x (with_said w) es)
  said_marked x w q es h = mild_marked x (with_said w) (same_name w) (same_mark w q) es h

  set_marked : (x : List ℕ) → S x → (es : List EntryTree) → Marked es → Marked (changed x as_parameter es)
  set_marked x s es h y d i m =
      let r = find_changed x as_parameter (λ e. refl) es y d i in
      ⊎_elim (λ a. h y r.entry r.found (ap (λ (z : EntryTree). z.parameter) a ∙ m))
      (λ a. subst S (found_name x es r.entry a.1 ∙ sym (found_name y es r.entry r.found)) s) r.is

  dummies_marked : (xs : List (List ℕ)) (n line : ℕ) (t : Told) → Marked t.entries → Marked (dummies_told xs n line t).entries
  dummies_marked [] n line t h = h
  dummies_marked (x ∷ xs) n line t h = dummies_marked xs (suc n) line (dummy_told x n line t) (mild_marked x (with_dummy n) (λ e. refl) (λ e. refl) (seen x line t.entries) (seen_marked x line t.entries h))

  table_marked : (at : LineTable) (m : ModuleTree) → ((x : List ℕ) → SomeSets m.decls x → S x) → Marked (table_of at m).entries
  table_marked at m f =
      let fs = arrays_named m.decls in
      let t = dummies_told m.dummies 1 (line_or at Title 0) no_names in
      let u = title_told at m in
      stmts_keep Marked seen_marked said_marked S set_marked (λ bs. Unit {0}) bounded fs at m.body 0 (decls_told fs at m.decls 0 u).entries
      (decls_keep Marked seen_marked said_marked S set_marked (λ bs. Unit {0}) bounded fs at m.decls f (λ bs i. tt) 0 u
      (form_keeps Marked seen_marked said_marked S set_marked (λ bs. Unit {0}) bounded fs m.function m.name (line_or at Title 0) t (dummies_marked m.dummies 1 (line_or at Title 0) no_names none_marked)))
    where
      bounded : (x : List ℕ) (line : ℕ) (b : ExtentTree) (bs : List ExtentTree) → Unit {0} → (es : List EntryTree) → Marked es → Marked (changed x (with_said (Shaped line (bound_of b) (map bound_of bs))) es)
      bounded x line b bs q es h = mild_marked x (with_said (Shaped line (bound_of b) (map bound_of bs))) (λ e. refl) (λ e. refl) es h

-- ---- no name is REAL

not_real : (ks : List Kind) (e : EntryTree) (c : Option ℕ) (o : Option Refusal) → in_common_too e c (refuse_if (is_real (entry_kind ks e)) e.line RealName o) ≡ None → is_real (entry_kind ks e) ≡ false
not_real ks e None o q = (none_refused (is_real (entry_kind ks e)) e.line RealName o q).0
not_real ks e (Some line) o q = (none_refused (is_real (entry_kind ks e)) e.line RealName o (none_refused (is_some e.dummy || e.parameter) line CommonTwice (refuse_if (is_real (entry_kind ks e)) e.line RealName o) q).1).0

none_real : (ks : List Kind) (es : List EntryTree) (o : Option Refusal) → check_entries ks es o ≡ None → (y : List ℕ) (e : EntryTree) → find y es ≡ Some e → is_real (entry_kind ks e) ≡ false
unfolding find
none_real ks [] o q y e h = cc
none_real ks (x ∷ es) o q y e h = go (bytes_eq y x.name) h (λ i. none_real ks es (check_entry ks x o) q y e i)
  where
    go : (b : Bool) → (if b then Some x else find y es) ≡ Some e → (find y es ≡ Some e → is_real (entry_kind ks e) ≡ false) → is_real (entry_kind ks e) ≡ false
    go true i ih = (let same : x ≡ e = cc in subst (λ (z : EntryTree). is_real (entry_kind ks z) ≡ false) same (not_real ks x x.common o (entries_back ks es (check_entry ks x o) q)))
    go false i ih = ih i

-- ---- values

kind_found : (t : NameTable) (x : List ℕ) (e : EntryTree) → find x t.entries ≡ Some e → kind_in t x ≡ entry_kind t.kinds e
unfolding kind_in
kind_found t x e f = ap (of_entry (kind_of_name t.kinds x) (entry_kind t.kinds)) f

module _ (ks : List Kind) where
  -- each PARAMETER has a value, or is one of the names that are set later
  record Stand (R : List ℕ → Type 0) (v : Valued) : Type 0 where
    kinds : v.table.kinds ≡ ks
    integral : (y : List ℕ) (e : EntryTree) → find y v.table.entries ≡ Some e → is_real (entry_kind ks e) ≡ false
    valued : (y : List ℕ) (e : EntryTree) → find y v.table.entries ≡ Some e → e.parameter ≡ true → (is_some e.value ≡ true) ⊎ R y

  stand_more : (R T : List ℕ → Type 0) → ((y : List ℕ) → R y → T y) → (v : Valued) → Stand R v → Stand T v
  stand_more R T f v h = record { kinds = h.kinds; integral = h.integral; valued = λ y e i m. ⊎_elim (λ a. inl a) (λ a. inr (f y a)) (h.valued y e i m) }

  module _ (R : List ℕ → Type 0) (x : List ℕ) where
    abbrev Next : List ℕ → Type 0
    Next y = (x ≡ y) ⊎ R y

    given : (c : Constant) (v : Valued) → Stand Next v → Stand R (record v { table = record v.table { entries = changed x (with_value c) v.table.entries } })
    given c v h = record {
      kinds = h.kinds;
      integral = λ y d i.
          (let r = find_changed x (with_value c) (λ e. refl) v.table.entries y d i in
          ⊎_elim (λ a. subst (λ (z : EntryTree). is_real (entry_kind ks z) ≡ false) a (h.integral y r.entry r.found))
          (λ a. subst (λ (z : EntryTree). is_real (entry_kind ks z) ≡ false) a.0 (ap is_real (valued_kind ks c r.entry) ∙ h.integral y r.entry r.found)) r.is);
      valued = λ y d i m.
          (let r = find_changed x (with_value c) (λ e. refl) v.table.entries y d i in
          ⊎_elim (λ a. kept y d r.entry r.found a m i) (λ a. inl (ap (λ (z : EntryTree). is_some z.value) (sym a.0))) r.is);
    }
      where
        kept : (y : List ℕ) (d e : EntryTree) → find y v.table.entries ≡ Some e → e ≡ d → d.parameter ≡ true → find y (changed x (with_value c) v.table.entries) ≡ Some d → (is_some d.value ≡ true) ⊎ R y
        kept y d e f a m i =
            ⊎_elim (λ w. inl (ap (λ (z : EntryTree). is_some z.value) (sym a) ∙ w))
            (λ w. ⊎_elim
            (λ q. (let there : find y (changed x (with_value c) v.table.entries) ≡ Some (with_value c e) = subst (λ z. find z (changed x (with_value c) v.table.entries) ≡ Some (with_value c e)) q (changed_here x (with_value c) (λ z. refl) v.table.entries e (subst (λ z. find z v.table.entries ≡ Some e) (sym q) f)) in
            let same : with_value c e ≡ d = (let both : Some (with_value c e) ≡ Some d = sym there ∙ i in cc) in
            inl (ap (λ (z : EntryTree). is_some z.value) (sym same))))
            (λ q. inr q) w)
            (h.valued y e f (ap (λ (z : EntryTree). z.parameter) a ∙ m))

    bad : (line : ℕ) (v : Valued) → (is_bad_parameter line v).found ≡ None → ⊥
    bad line v e = true≢false ((none_refused true line BadParameter v.found e).0)

    -- of a REAL name nothing is found
    real_kept : (v : Valued) → kind_in v.table x ≡ Real → Stand Next v → Stand R v
    real_kept v k h = record {
      kinds = h.kinds;
      integral = h.integral;
      valued = λ y e i m.
          ⊎_elim (λ a. inl a)
          (λ a. ⊎_elim (λ q. absurd (real y e i q)) (λ q. inr q) a)
          (h.valued y e i m);
    }
      where
        real : (y : List ℕ) (e : EntryTree) → find y v.table.entries ≡ Some e → x ≡ y → ⊥
        real y e i q =
            let kind : kind_in v.table y ≡ entry_kind ks e = kind_found v.table y e i ∙ ap (λ z. entry_kind z e) h.kinds in
            let other : kind_in v.table y ≡ Real = subst (λ z. kind_in v.table z ≡ Real) q k in
            true≢false (ap is_real (sym other ∙ kind) ∙ h.integral y e i)

    typed : (k : Kind) (c : Constant) (line : ℕ) (v : Valued) → kind_in v.table x ≡ k → (given_typed k x c line v).found ≡ None → Stand Next v → Stand R (given_typed k x c line v)
    typed Int (constant.Int n) line v k e h = given (constant.Int n) v h
    typed Int (constant.Log b) line v k e h = absurd (bad line v e)
    typed Log (constant.Int n) line v k e h = absurd (bad line v e)
    typed Log (constant.Log b) line v k e h = given (constant.Log b) v h
    typed Real c line v k e h = real_kept v k h

    of_const_value : (w : ConstantValue) (line : ℕ) (v : Valued) → (given_const_value x w line v).found ≡ None → Stand Next v → Stand R (given_const_value x w line v)
    of_const_value Varies line v e h = absurd (bad line v e)
    of_const_value Faults line v e h = absurd (bad line v e)
    of_const_value (Is c) line v e h = typed (kind_in v.table x) c line v refl e h

  -- what was found of other statements changes no name
  judged_stand : (R : List ℕ → Type 0) (s : SettingTree) (line : ℕ) (v : Valued) → Stand R v → Stand R (judged s line v)
  judged_stand R s line v h = record { kinds = h.kinds; integral = h.integral; valued = h.valued }

  chosen_stand : (R : List ℕ → Type 0) (b : Bool) (s : SettingTree) (line : ℕ) (v : Valued) → (chosen b s line v).found ≡ None → Stand (λ y. (s.name ≡ y) ⊎ R y) v → Stand R (chosen b s line v)
  chosen_stand R true s line v e h = absurd (bad R s.name line (shape_noted s line v) e)
  chosen_stand R false s line v e h = of_const_value R s.name (const_value (value_among v.table.entries) s.value) line (judged s line v) e (judged_stand (λ y. (s.name ≡ y) ⊎ R y) s line v h)

  setting_stand : (R : List ℕ → Type 0) (s : SettingTree) (line : ℕ) (v : Valued) → (setting_valued s line v).found ≡ None → Stand (λ y. (s.name ≡ y) ⊎ R y) v → Stand R (setting_valued s line v)
  setting_stand R s line v e h = subst (Stand R) (sym (as_chosen s line v)) (chosen_stand R (is_taken s v) s line v (ap (λ (z : Valued). z.found) (sym (as_chosen s line v)) ∙ e) h)

  settings_stand : (R : List ℕ → Type 0) (ss : List SettingTree) (line : ℕ) (v : Valued) → (settings_valued ss line v).found ≡ None → Stand (λ y. IsSet ss y ⊎ R y) v → Stand R (settings_valued ss line v)
  settings_stand R [] line v e h = stand_more (λ y. IsSet [] y ⊎ R y) R (λ y a. ⊎_elim (λ q. absurd q) (λ q. q) a) v h
  settings_stand R (s ∷ ss) line v e h =
      settings_stand R ss line (setting_valued s line v) e
      (setting_stand (λ y. IsSet ss y ⊎ R y) s line v (settings_back ss line (setting_valued s line v) e)
      (stand_more (λ y. IsSet (s ∷ ss) y ⊎ R y) (λ y. (s.name ≡ y) ⊎ (IsSet ss y ⊎ R y)) (λ y a. ⊎_elim (λ q. ⊎_elim (λ z. inl z) (λ z. inr (inl z)) q) (λ q. inr (inr q)) a) v h))

  plain : (R : List ℕ → Type 0) (v : Valued) → Stand (λ y. ⊥ ⊎ R y) v → Stand R v
  plain R v h = stand_more (λ y. ⊥ ⊎ R y) R (λ y a. ⊎_elim (λ q. absurd q) (λ q. q) a) v h

  decl_stand : (R : List ℕ → Type 0) (d : DeclTree) (line : ℕ) (v : Valued) → (decl_valued d line v).found ≡ None → Stand (λ y. Sets d y ⊎ R y) v → Stand R (decl_valued d line v)
  decl_stand R (decl.parameter ss) line v e h = settings_stand R ss line v e h
  decl_stand R (decl.implicit ps) line v e h = plain R v h
  decl_stand R (decl.integer es) line v e h = plain R v h
  decl_stand R (decl.logical es) line v e h = plain R v h
  decl_stand R (decl.dimension es) line v e h = plain R v h
  decl_stand R (decl.common cs) line v e h = plain R v h
  decl_stand R (decl.equivalence gs) line v e h = plain R v h
  decl_stand R (decl.save is) line v e h = plain R v h
  decl_stand R (decl.initial gs) line v e h = plain R v h

  decls_stand : (at : LineTable) (ds : List DeclTree) (n : ℕ) (v : Valued) → (decls_valued at ds n v).found ≡ None → Stand (SomeSets ds) v → Stand (λ y. ⊥) (decls_valued at ds n v)
  decls_stand at [] n v e h = h
  decls_stand at (d ∷ ds) n v e h =
      let w = decl_valued d (line_or at (Decl n) 0) v in
      decls_stand at ds (n + 1) w e (decl_stand (SomeSets ds) d (line_or at (Decl n) 0) v (values_back at ds (n + 1) w e) h)

-- a PARAMETER among the names of a module
pub parameters_have_values : (p : ParsedTree) (ss : List SymbolTree) → Answered p ss → (n : ℕ) (e : EntryTree) → slice_get (names_in p).entries n ≡ Some e → e.parameter ≡ true → is_some e.value ≡ true
unfolding valued
parameters_have_values p ss a n e s m =
    let at = lines_in p in
    let d = p.module_read in
    let none = values_none p (found_none p ss a) in
    let v : Valued = record { table = table_of at d; found = check_names at d } in
    let begin : Stand (kinds_of d.decls) (SomeSets d.decls) v = record {
      kinds = refl;
      integral = none_real (kinds_of d.decls) (told_of (arrays_named d.decls) at d).entries (told_of (arrays_named d.decls) at d).found (names_none p none);
      valued = λ y f i q. inr (table_marked (SomeSets d.decls) at d (λ x w. w) y f i q);
    } in
    let end = decls_stand (kinds_of d.decls) at d.decls 0 v none begin in
    let there : find e.name (names_in p).entries ≡ Some e = found_at 0 (names_in p).entries e.name n e (names_differ p n e.name (named (names_in p).entries n s)) (ap (slice_get (names_in p).entries) (no_less n) ∙ s) in
    ⊎_elim (λ w. w) (λ w. absurd w) (end.valued e.name e there m)
  where
    no_less : (n : ℕ) → n - 0 ≡ n
    no_less n = omega arith

    named : (es : List EntryTree) (n : ℕ) → slice_get es n ≡ Some e → slice_get (entry_names es) n ≡ Some e.name
    named [] n q = cc
    named (x ∷ es) zero q = (let same : x ≡ e = cc in ap (λ (z : EntryTree). Some z.name) same)
    named (x ∷ es) (suc n) q = named es n q
