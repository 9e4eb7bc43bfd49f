-- The values of PARAMETER names: a name with a value is a PARAMETER, and the value has its type.
use Rattle.std.proofs.Common.{◌≡◌, ◌⊎◌, inl, inr, ℕ, suc, ◌+◌, Bool, true, false, List, [], ◌∷◌, ◌++◌, Option, Some, None, refl, sym, ap, ◌∙◌, subst}
use Rattle.std.specs.Prelude.{if◌then◌else◌, bytes_eq, is_some}
use Rattle.std.proofs.lemmas.Slice.Eq.{bytes_eq-Decides}
use Rattle.f77_ast.specs.DeclTrees.{SettingTree, DeclTree, ModuleTree, ParsedTree}
use Rattle.f77_ast.specs.DeclTrees as decl
use Rattle.f77_ast.specs.declared.constant.Constant.{Constant}
use Rattle.f77_ast.specs.declared.constant.Constant.TheVariants as constant
use Rattle.f77_ast.specs.declared.constant.ConstantValue.{ConstantValue}
use Rattle.f77_ast.specs.declared.constant.ConstantValue.TheVariants.{Is, Faults, Varies}
use Rattle.f77_ast.specs.Constants.{const_value}
use Rattle.f77_names.specs.declared.functions.Function.{Function}
use Rattle.f77_names.specs.declared.kinds.Kind.{Kind}
use Rattle.f77_names.specs.declared.kinds.Kind.TheVariants.{Int, Log, Real}
use Rattle.f77_names.specs.declared.lines.Sited.TheVariants.{Decl}
use Rattle.f77_names.specs.Lines.{LineTable, line_or}
use Rattle.f77_names.specs.Functions.{arrays_named}
use Rattle.f77_names.specs.Kinds.{kinds_of, kind_of_name}
use Rattle.f77_names.specs.Entries.{EntryTree, fresh, find, seen, changed, of_entry, is_parameter, as_parameter, with_value, value_among}
use Rattle.f77_names.specs.Declaring.{Told, setting_told, settings_told, decl_told, decls_told}
use Rattle.f77_names.specs.Tables.{NameTable, entry_kind, kind_in, title_told, table_of, check_names}
use Rattle.f77_checks.specs.Parameters.{Valued, given_typed, given_const_value, setting_valued, settings_valued, decl_valued, decls_valued}
use Rattle.storage_layout.specs.Symbols.{valued}
use Rattle.laws_programs.proofs.SymbolTables.KeptNames.{Said, with_said, Typed, Shaped, Shared, Parameter, Saved, Initial, Nothing, expr_keeps, settings_keep, decls_keep, stmts_keep}
use Rattle.laws_programs.proofs.SymbolTables.Values.{chosen, as_chosen, is_taken, judged}
use Rattle.laws_programs.proofs.SymbolTables.Answers.{lines_in, names_in}
use Rattle.laws_programs.proofs.SymbolTables.FoundNames.{AllFound, Changed, find_changed, table_found}

-- ---- a name stays a PARAMETER

abbrev pub Named : List ℕ → List EntryTree → Type 0
Named x es = is_parameter x es ≡ true

found_still : (x : List ℕ) (es : List EntryTree) (z : EntryTree) → Named x es → Named x (es ++ z ∷ [])
unfolding find
found_still x [] z h = cc
found_still x (e ∷ es) z h = go (bytes_eq x e.name) h (found_still x es z)
  where
    go : (b : Bool) → of_entry false (λ d. d.parameter) (if b then Some e else find x es) ≡ true → (of_entry false (λ d. d.parameter) (find x es) ≡ true → of_entry false (λ d. d.parameter) (find x (es ++ z ∷ [])) ≡ true) → of_entry false (λ d. d.parameter) (if b then Some e else find x (es ++ z ∷ [])) ≡ true
    go true k ih = k
    go false k ih = ih k

seen_named : (y x : List ℕ) (line : ℕ) (es : List EntryTree) → Named y es → Named y (seen x line es)
seen_named y x line es h = go (is_some (find x es))
  where
    go : (b : Bool) → Named y (if b then es else es ++ fresh x line ∷ [])
    go true = h
    go false = found_still y es (fresh x line) h

changed_named : (y x : List ℕ) (f : EntryTree → EntryTree) → ((e : EntryTree) → (f e).name ≡ e.name) → ((e : EntryTree) → e.parameter ≡ true → (f e).parameter ≡ true) → (es : List EntryTree) → Named y es → Named y (changed x f es)
unfolding find
changed_named y x f names keeps [] h = h
changed_named y x f names keeps (e ∷ es) h = go (bytes_eq x e.name) (bytes_eq y e.name) refl h (changed_named y x f names keeps es)
  where
    go : (a b : Bool) → bytes_eq y e.name ≡ b → of_entry false (λ d. d.parameter) (if b then Some e else find y es) ≡ true → (Named y es → Named y (changed x f es)) → of_entry false (λ d. d.parameter) (find y (if a then f e ∷ es else e ∷ changed x f es)) ≡ true
    go true true q k ih = ap (λ n. of_entry false (λ d. d.parameter) (if bytes_eq y n then Some (f e) else find y es)) (names e) ∙ ap (λ c. of_entry false (λ d. d.parameter) (if c then Some (f e) else find y es)) q ∙ keeps e k
    go true false q k ih = ap (λ n. of_entry false (λ d. d.parameter) (if bytes_eq y n then Some (f e) else find y es)) (names e) ∙ ap (λ c. of_entry false (λ d. d.parameter) (if c then Some (f e) else find y es)) q ∙ k
    go false true q k ih = ap (λ c. of_entry false (λ d. d.parameter) (if c then Some e else find y (changed x f es))) q ∙ k
    go false false q k ih = ap (λ c. of_entry false (λ d. d.parameter) (if c then Some e else find y (changed x f es))) q ∙ ih k

pub same_name : (w : Said) (e : EntryTree) → (with_said w e).name ≡ e.name
same_name (Typed s) e = refl
same_name (Shaped line b bs) e = refl
same_name (Shared line) e = refl
same_name Parameter e = refl
same_name Saved e = refl
same_name Initial e = refl
same_name Nothing e = refl

still_parameter : (w : Said) (e : EntryTree) → e.parameter ≡ true → (with_said w e).parameter ≡ true
still_parameter (Typed s) e h = h
still_parameter (Shaped line b bs) e h = h
still_parameter (Shared line) e h = h
still_parameter Parameter e h = refl
still_parameter Saved e h = h
still_parameter Initial e h = h
still_parameter Nothing e h = h

said_named : (y x : List ℕ) (w : Said) (es : List EntryTree) → Named y es → Named y (changed x (with_said w) es)
said_named y x w es h = changed_named y x (with_said w) (same_name w) (still_parameter w) es h

-- ---- a name becomes one

last_seen : (x : List ℕ) (line : ℕ) (ds : List EntryTree) → is_some (find x (ds ++ fresh x line ∷ [])) ≡ true
unfolding find
last_seen x line [] = ap (λ b. is_some (if b then Some (fresh x line) else None)) ((bytes_eq-Decides x x).1 refl)
last_seen x line (d ∷ ds) = go (bytes_eq x d.name) (last_seen x line ds)
  where
    go : (b : Bool) → is_some (find x (ds ++ fresh x line ∷ [])) ≡ true → is_some (if b then Some d else find x (ds ++ fresh x line ∷ [])) ≡ true
    go true h = refl
    go false h = h

is_seen : (x : List ℕ) (line : ℕ) (es : List EntryTree) → is_some (find x (seen x line es)) ≡ true
is_seen x line es = go (is_some (find x es)) refl
  where
    go : (b : Bool) → is_some (find x es) ≡ b → is_some (find x (if b then es else es ++ fresh x line ∷ [])) ≡ true
    go true e = e
    go false e = last_seen x line es

becomes : (x : List ℕ) (es : List EntryTree) → is_some (find x es) ≡ true → Named x (changed x as_parameter es)
unfolding find
becomes x [] h = cc
becomes x (e ∷ es) h = go (bytes_eq x e.name) refl h (becomes x es)
  where
    go : (b : Bool) → bytes_eq x e.name ≡ b → is_some (if b then Some e else find x es) ≡ true → (is_some (find x es) ≡ true → Named x (changed x as_parameter es)) → of_entry false (λ d. d.parameter) (find x (if b then as_parameter e ∷ es else e ∷ changed x as_parameter es)) ≡ true
    go true q k ih = ap (λ c. of_entry false (λ d. d.parameter) (if c then Some (as_parameter e) else find x es)) q
    go false q k ih = ap (λ c. of_entry false (λ d. d.parameter) (if c then Some e else find x (changed x as_parameter es))) q ∙ ih k

-- ---- the PARAMETER statements

abbrev SettingsAre : (List ℕ → Type 0) → List SettingTree → Type 0
SettingsAre R [] = Unit {0}
SettingsAre R (s ∷ ss) = R s.name × SettingsAre R ss

abbrev DeclIs : (List ℕ → Type 0) → DeclTree → Type 0
DeclIs R (decl.parameter ss) = SettingsAre R ss
DeclIs R (decl.implicit ps) = Unit {0}
DeclIs R (decl.integer es) = Unit {0}
DeclIs R (decl.logical es) = Unit {0}
DeclIs R (decl.dimension es) = Unit {0}
DeclIs R (decl.common cs) = Unit {0}
DeclIs R (decl.equivalence gs) = Unit {0}
DeclIs R (decl.save is) = Unit {0}
DeclIs R (decl.initial gs) = Unit {0}

abbrev DeclsAre : (List ℕ → Type 0) → List DeclTree → Type 0
DeclsAre R [] = Unit {0}
DeclsAre R (d ∷ ds) = DeclIs R d × DeclsAre R ds

settings_more : (R S : List ℕ → Type 0) → ((x : List ℕ) → R x → S x) → (ss : List SettingTree) → SettingsAre R ss → SettingsAre S ss
settings_more R S f [] h = tt
settings_more R S f (s ∷ ss) h = (f s.name h.0, settings_more R S f ss h.1)

decl_more : (R S : List ℕ → Type 0) → ((x : List ℕ) → R x → S x) → (d : DeclTree) → DeclIs R d → DeclIs S d
decl_more R S f (decl.parameter ss) h = settings_more R S f ss h
decl_more R S f (decl.implicit ps) h = tt
decl_more R S f (decl.integer es) h = tt
decl_more R S f (decl.logical es) h = tt
decl_more R S f (decl.dimension es) h = tt
decl_more R S f (decl.common cs) h = tt
decl_more R S f (decl.equivalence gs) h = tt
decl_more R S f (decl.save is) h = tt
decl_more R S f (decl.initial gs) h = tt

decls_more : (R S : List ℕ → Type 0) → ((x : List ℕ) → R x → S x) → (ds : List DeclTree) → DeclsAre R ds → DeclsAre S ds
decls_more R S f [] h = tt
decls_more R S f (d ∷ ds) h = (decl_more R S f d h.0, decls_more R S f ds h.1)

module _ (fs : List Function) where
  settings_named : (ss : List SettingTree) (line : ℕ) (t : Told) → SettingsAre (λ x. Named x (settings_told fs ss line t).entries) ss
  settings_named [] line t = tt
  settings_named (s ∷ ss) line t =
      let es = changed s.name as_parameter (seen s.name line t.entries) in
      let first = expr_keeps (Named s.name) (seen_named s.name) (said_named s.name) fs s.value line es (becomes s.name (seen s.name line t.entries) (is_seen s.name line t.entries)) in
      (settings_keep (Named s.name) (seen_named s.name) (said_named s.name) fs ss line (setting_told fs s line t) first, settings_named ss line (setting_told fs s line t))

  decl_named : (d : DeclTree) (line : ℕ) (t : Told) → DeclIs (λ x. Named x (decl_told fs d line t).entries) d
  decl_named (decl.parameter ss) line t = settings_named ss line t
  decl_named (decl.implicit ps) line t = tt
  decl_named (decl.integer es) line t = tt
  decl_named (decl.logical es) line t = tt
  decl_named (decl.dimension es) line t = tt
  decl_named (decl.common cs) line t = tt
  decl_named (decl.equivalence gs) line t = tt
  decl_named (decl.save is) line t = tt
  decl_named (decl.initial gs) line t = tt

  decls_named : (at : LineTable) (ds : List DeclTree) (n : ℕ) (t : Told) → DeclsAre (λ x. Named x (decls_told fs at ds n t).entries) ds
  decls_named at [] n t = tt
  decls_named at (d ∷ ds) n t =
      let u = decl_told fs d (line_or at (Decl n) 0) t in
      (decl_more (λ x. Named x u.entries) (λ x. Named x (decls_told fs at ds (suc n) u).entries) (λ x h. decls_keep (Named x) (seen_named x) (said_named x) fs at ds (suc n) u h) d (decl_named d (line_or at (Decl n) 0) t), decls_named at ds (suc n) u)

table_named : (at : LineTable) (m : ModuleTree) → DeclsAre (λ x. Named x (table_of at m).entries) m.decls
table_named at m =
    let fs = arrays_named m.decls in
    let t = title_told at m in
    let u = decls_told fs at m.decls 0 t in
    decls_more (λ x. Named x u.entries) (λ x. Named x (table_of at m).entries) (λ x h. stmts_keep (Named x) (seen_named x) (said_named x) fs at m.body 0 u.entries h) m.decls (decls_named fs at m.decls 0 t)

-- ---- values

-- a value of a type
abbrev pub OfKind : Kind → Constant → Type 0
OfKind Int (constant.Int n) = Unit {0}
OfKind Int (constant.Log b) = ⊥
OfKind Log (constant.Int n) = ⊥
OfKind Log (constant.Log b) = Unit {0}
OfKind Real c = ⊥

-- a name has no value, or it is a PARAMETER with a value of its type
pub data Right (ks : List Kind) (e : EntryTree) : Type 0 where
  no_value : e.value ≡ None → Right ks e
  a_value : (c : Constant) → e.value ≡ Some c → e.parameter ≡ true → OfKind (entry_kind ks e) c → Right ks e

pub valued_kind : (ks : List Kind) (c : Constant) (e : EntryTree) → entry_kind ks (with_value c e) ≡ entry_kind ks e
unfolding entry_kind
valued_kind ks c e = refl

value_right : (ks : List Kind) (x : List ℕ) (c : Constant) (es : List EntryTree) → Named x es → ((e : EntryTree) → find x es ≡ Some e → OfKind (entry_kind ks e) c) → AllFound (Right ks) es → AllFound (Right ks) (changed x (with_value c) es)
value_right ks x c es named kind all y d k =
    let r = find_changed x (with_value c) (λ e. refl) es y d k in
    elim r.is [
      | inl a ↦ subst (Right ks) a (all y r.entry r.found)
      | inr b ↦ subst (Right ks) b.0 (a_value c refl (sym (ap (of_entry false (λ z. z.parameter)) b.1) ∙ named) (subst (λ q. OfKind q c) (sym (valued_kind ks c r.entry)) (kind r.entry b.1)))
    ]

-- the type of a name that is found
kind_found : (t : NameTable) (x : List ℕ) (k : Kind) (c : Constant) (e : EntryTree) → kind_in t x ≡ k → OfKind k c → find x t.entries ≡ Some e → OfKind (entry_kind t.kinds e) c
unfolding kind_in
kind_found t x k c e h q f = subst (λ z. OfKind z c) (sym h ∙ ap (of_entry (kind_of_name t.kinds x) (entry_kind t.kinds)) f) q

record Kept (ks : List Kind) (v : Valued) : Type 0 where
  kinds : v.table.kinds ≡ ks
  right : AllFound (Right ks) v.table.entries

module _ (ks : List Kind) where
  given_kept : (x : List ℕ) (c : Constant) (v : Valued) (k : Kind) → kind_in v.table x ≡ k → OfKind k c → Named x v.table.entries → Kept ks v → AllFound (Right ks) (changed x (with_value c) v.table.entries)
  given_kept x c v k e o n h = value_right ks x c v.table.entries n (λ d f. subst (λ z. OfKind (entry_kind z d) c) h.kinds (kind_found v.table x k c d e o f)) h.right

  typed_kept : (k : Kind) (x : List ℕ) (c : Constant) (line : ℕ) (v : Valued) → kind_in v.table x ≡ k → Named x v.table.entries → Kept ks v → Kept ks (given_typed k x c line v)
  typed_kept Int x (constant.Int i) line v e n h = record { kinds = h.kinds; right = given_kept x (constant.Int i) v Int e tt n h }
  typed_kept Int x (constant.Log b) line v e n h = record { kinds = h.kinds; right = h.right }
  typed_kept Log x (constant.Int i) line v e n h = record { kinds = h.kinds; right = h.right }
  typed_kept Log x (constant.Log b) line v e n h = record { kinds = h.kinds; right = given_kept x (constant.Log b) v Log e tt n h }
  typed_kept Real x c line v e n h = h

  typed_named : (y : List ℕ) (k : Kind) (x : List ℕ) (c : Constant) (line : ℕ) (v : Valued) → Named y v.table.entries → Named y (given_typed k x c line v).table.entries
  typed_named y Int x (constant.Int i) line v n = changed_named y x (with_value (constant.Int i)) (λ e. refl) (λ e h. h) v.table.entries n
  typed_named y Int x (constant.Log b) line v n = n
  typed_named y Log x (constant.Int i) line v n = n
  typed_named y Log x (constant.Log b) line v n = changed_named y x (with_value (constant.Log b)) (λ e. refl) (λ e h. h) v.table.entries n
  typed_named y Real x c line v n = n

  const_value_kept : (x : List ℕ) (w : ConstantValue) (line : ℕ) (v : Valued) → Named x v.table.entries → Kept ks v → Kept ks (given_const_value x w line v)
  const_value_kept x Varies line v n h = record { kinds = h.kinds; right = h.right }
  const_value_kept x Faults line v n h = record { kinds = h.kinds; right = h.right }
  const_value_kept x (Is c) line v n h = typed_kept (kind_in v.table x) x c line v refl n h

  const_value_named : (y x : List ℕ) (w : ConstantValue) (line : ℕ) (v : Valued) → Named y v.table.entries → Named y (given_const_value x w line v).table.entries
  const_value_named y x Varies line v n = n
  const_value_named y x Faults line v n = n
  const_value_named y x (Is c) line v n = typed_named y (kind_in v.table x) x c line v n

  chosen_kept : (b : Bool) (s : SettingTree) (line : ℕ) (v : Valued) → Named s.name v.table.entries → Kept ks v → Kept ks (chosen b s line v)
  chosen_kept true s line v n h = record { kinds = h.kinds; right = h.right }
  chosen_kept false s line v n h = const_value_kept s.name (const_value (value_among v.table.entries) s.value) line (judged s line v) n (record { kinds = h.kinds; right = h.right })

  chosen_named : (y : List ℕ) (b : Bool) (s : SettingTree) (line : ℕ) (v : Valued) → Named y v.table.entries → Named y (chosen b s line v).table.entries
  chosen_named y true s line v n = n
  chosen_named y false s line v n = const_value_named y s.name (const_value (value_among v.table.entries) s.value) line (judged s line v) n

  setting_kept : (s : SettingTree) (line : ℕ) (v : Valued) → Named s.name v.table.entries → Kept ks v → Kept ks (setting_valued s line v)
  setting_kept s line v n h = subst (Kept ks) (sym (as_chosen s line v)) (chosen_kept (is_taken s v) s line v n h)

  setting_named : (y : List ℕ) (s : SettingTree) (line : ℕ) (v : Valued) → Named y v.table.entries → Named y (setting_valued s line v).table.entries
  setting_named y s line v n = subst (λ (z : Valued). Named y z.table.entries) (sym (as_chosen s line v)) (chosen_named y (is_taken s v) s line v n)

  settings_kept : (ss : List SettingTree) (line : ℕ) (v : Valued) → SettingsAre (λ x. Named x v.table.entries) ss → Kept ks v → Kept ks (settings_valued ss line v)
  settings_kept [] line v n h = h
  settings_kept (s ∷ ss) line v n h =
      let w = setting_valued s line v in
      settings_kept ss line w (settings_more (λ x. Named x v.table.entries) (λ x. Named x w.table.entries) (λ x k. setting_named x s line v k) ss n.1) (setting_kept s line v n.0 h)

  settings_still : (y : List ℕ) (ss : List SettingTree) (line : ℕ) (v : Valued) → Named y v.table.entries → Named y (settings_valued ss line v).table.entries
  settings_still y [] line v n = n
  settings_still y (s ∷ ss) line v n = settings_still y ss line (setting_valued s line v) (setting_named y s line v n)

  decl_kept : (d : DeclTree) (line : ℕ) (v : Valued) → DeclIs (λ x. Named x v.table.entries) d → Kept ks v → Kept ks (decl_valued d line v)
  decl_kept (decl.parameter ss) line v n h = settings_kept ss line v n h
  decl_kept (decl.implicit ps) line v n h = h
  decl_kept (decl.integer es) line v n h = h
  decl_kept (decl.logical es) line v n h = h
  decl_kept (decl.dimension es) line v n h = h
  decl_kept (decl.common cs) line v n h = h
  decl_kept (decl.equivalence gs) line v n h = h
  decl_kept (decl.save is) line v n h = h
  decl_kept (decl.initial gs) line v n h = h

  decl_still : (y : List ℕ) (d : DeclTree) (line : ℕ) (v : Valued) → Named y v.table.entries → Named y (decl_valued d line v).table.entries
  decl_still y (decl.parameter ss) line v n = settings_still y ss line v n
  decl_still y (decl.implicit ps) line v n = n
  decl_still y (decl.integer es) line v n = n
  decl_still y (decl.logical es) line v n = n
  decl_still y (decl.dimension es) line v n = n
  decl_still y (decl.common cs) line v n = n
  decl_still y (decl.equivalence gs) line v n = n
  decl_still y (decl.save is) line v n = n
  decl_still y (decl.initial gs) line v n = n

  decls_kept : (at : LineTable) (ds : List DeclTree) (n : ℕ) (v : Valued) → DeclsAre (λ x. Named x v.table.entries) ds → Kept ks v → Kept ks (decls_valued at ds n v)
  decls_kept at [] n v q h = h
  decls_kept at (d ∷ ds) n v q h =
      let line = line_or at (Decl n) 0 in
      let w = decl_valued d line v in
      decls_kept at ds (n + 1) w (decls_more (λ x. Named x v.table.entries) (λ x. Named x w.table.entries) (λ x k. decl_still x d line v k) ds q.1) (decl_kept d line v q.0 h)

pub none_said : (w : Said) (e : EntryTree) → e.value ≡ None → (with_said w e).value ≡ None
none_said (Typed s) e h = h
none_said (Shaped line b bs) e h = h
none_said (Shared line) e h = h
none_said Parameter e h = h
none_said Saved e h = h
none_said Initial e h = h
none_said Nothing e h = h

-- the names of a module
pub record NamesRight (p : ParsedTree) : Type 0 where
  pub right : AllFound (Right (names_in p).kinds) (names_in p).entries

pub names_right : (p : ParsedTree) → NamesRight p
unfolding valued
names_right p =
    let at = lines_in p in
    let m = p.module_read in
    let ks = kinds_of m.decls in
    let begin = table_found (λ e. e.value ≡ None) (λ x line. refl) (λ n e h. h) none_said at m in
    let v : Valued = record { table = table_of at m; found = check_names at m } in
    let kept = decls_kept ks at m.decls 0 v (table_named at m) (record { kinds = refl; right = λ y e h. no_value (begin y e h) }) in
    record { right = subst (λ zs. AllFound (Right zs) (names_in p).entries) (sym kept.kinds) kept.right }
