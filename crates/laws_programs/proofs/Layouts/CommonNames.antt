-- The names in COMMON: each is there once, and stays in COMMON whatever more is said.
use Rattle.std.proofs.Common.{◌≡◌, ℕ, Bool, true, false, List, [], ◌∷◌, ◌++◌, Option, Some, None, refl, sym, ap, ◌∙◌}
use Rattle.std.specs.Prelude.{if◌then◌else◌, bytes_eq, is_some, map}
use Rattle.std.proofs.lemmas.Slice.Eq.{bytes_eq-Decides}
use Rattle.f77_ast.specs.Trees.{ExprTree}
use Rattle.f77_ast.specs.DeclTrees.{ExtentTree, EntityTree, CommonTree, DeclTree}
use Rattle.f77_ast.specs.DeclTrees as decl
use Rattle.fx_lists.specs.declared.code.Code.TheVariants.{CommonTwice}
use Rattle.f77_names.specs.declared.functions.Function.{Function}
use Rattle.f77_names.specs.Entries.{EntryTree, fresh, find, seen, changed, or_this, of_entry, has_common, with_common}
use Rattle.f77_names.specs.Appearing.{maybe_seen}
use Rattle.f77_names.specs.Declaring.{Told, bound_of, shaped, extents_seen, extent_seen, entity_seen, members_told, blocks_told}
use Rattle.laws_programs.proofs.SymbolTables.NameRefusals.{decls_back}
use Rattle.laws_programs.proofs.SymbolTables.KeptNames.{Said, with_said, Typed, Shaped, Shared, Parameter, Saved, Initial, Nothing, expr_keeps, decls_keep}
use Rattle.laws_programs.proofs.Storage.ParameterLaws.{same_name}
use Rattle.fx_lists.proofs.Refused.{none_refused}

-- ---- a name stays in COMMON

abbrev pub InCommon : List ℕ → List EntryTree → Type 0
InCommon x es = has_common x es ≡ true

found_still : (x : List ℕ) (es : List EntryTree) (z : EntryTree) → InCommon x es → InCommon x (es ++ z ∷ [])
unfolding find
found_still x [] z h = cc
found_still x (e ∷ es) z h = go (bytes_eq x e.name) h (found_still x es z)
  where
    go : (b : Bool) → of_entry false (λ d. is_some d.common) (if b then Some e else find x es) ≡ true → (of_entry false (λ d. is_some d.common) (find x es) ≡ true → of_entry false (λ d. is_some d.common) (find x (es ++ z ∷ [])) ≡ true) → of_entry false (λ d. is_some d.common) (if b then Some e else find x (es ++ z ∷ [])) ≡ true
    go true k ih = k
    go false k ih = ih k

pub seen_shared : (y x : List ℕ) (line : ℕ) (es : List EntryTree) → InCommon y es → InCommon y (seen x line es)
seen_shared y x line es h = go (is_some (find x es))
  where
    go : (b : Bool) → InCommon y (if b then es else es ++ fresh x line ∷ [])
    go true = h
    go false = found_still y es (fresh x line) h

pub changed_shared : (y x : List ℕ) (f : EntryTree → EntryTree) → ((e : EntryTree) → (f e).name ≡ e.name) → ((e : EntryTree) → is_some e.common ≡ true → is_some (f e).common ≡ true) → (es : List EntryTree) → InCommon y es → InCommon y (changed x f es)
unfolding find
changed_shared y x f names keeps [] h = h
changed_shared y x f names keeps (e ∷ es) h = go (bytes_eq x e.name) (bytes_eq y e.name) refl h (changed_shared y x f names keeps es)
  where
    go : (a b : Bool) → bytes_eq y e.name ≡ b → of_entry false (λ d. is_some d.common) (if b then Some e else find y es) ≡ true → (InCommon y es → InCommon y (changed x f es)) → of_entry false (λ d. is_some d.common) (find y (if a then f e ∷ es else e ∷ changed x f es)) ≡ true
    go true true q k ih = ap (λ n. of_entry false (λ d. is_some d.common) (if bytes_eq y n then Some (f e) else find y es)) (names e) ∙ ap (λ c. of_entry false (λ d. is_some d.common) (if c then Some (f e) else find y es)) q ∙ keeps e k
    go true false q k ih = ap (λ n. of_entry false (λ d. is_some d.common) (if bytes_eq y n then Some (f e) else find y es)) (names e) ∙ ap (λ c. of_entry false (λ d. is_some d.common) (if c then Some (f e) else find y es)) q ∙ k
    go false true q k ih = ap (λ c. of_entry false (λ d. is_some d.common) (if c then Some e else find y (changed x f es))) q ∙ k
    go false false q k ih = ap (λ c. of_entry false (λ d. is_some d.common) (if c then Some e else find y (changed x f es))) q ∙ ih k

or_some : (o : Option ℕ) (n : ℕ) → is_some (or_this o n) ≡ true
or_some None n = refl
or_some (Some m) n = refl

still_common : (w : Said) (e : EntryTree) → is_some e.common ≡ true → is_some (with_said w e).common ≡ true
still_common (Typed s) e h = h
still_common (Shaped line b bs) e h = h
still_common (Shared line) e h = or_some e.common line
still_common Parameter e h = h
still_common Saved e h = h
still_common Initial e h = h
still_common Nothing e h = h

pub said_shared : (y x : List ℕ) (w : Said) (es : List EntryTree) → InCommon y es → InCommon y (changed x (with_said w) es)
said_shared y x w es h = changed_shared y x (with_said w) (same_name w) (still_common w) es h

-- ---- a name that is found

abbrev pub IsFound : List ℕ → List EntryTree → Type 0
IsFound x es = is_some (find x es) ≡ true

found_more : (x : List ℕ) (es : List EntryTree) (z : EntryTree) → IsFound x es → IsFound x (es ++ z ∷ [])
unfolding find
found_more x [] z h = cc
found_more x (e ∷ es) z h = go (bytes_eq x e.name) h (found_more x es z)
  where
    go : (b : Bool) → is_some (if b then Some e else find x es) ≡ true → (IsFound x es → IsFound x (es ++ z ∷ [])) → is_some (if b then Some e else find x (es ++ z ∷ [])) ≡ true
    go true k ih = refl
    go false k ih = ih k

last_found : (x : List ℕ) (line : ℕ) (ds : List EntryTree) → IsFound x (ds ++ fresh x line ∷ [])
unfolding find
last_found x line [] = ap (λ b. is_some (if b then Some (fresh x line) else None)) ((bytes_eq-Decides x x).1 refl)
last_found x line (d ∷ ds) = go (bytes_eq x d.name) (last_found x line ds)
  where
    go : (b : Bool) → IsFound x (ds ++ fresh x line ∷ []) → is_some (if b then Some d else find x (ds ++ fresh x line ∷ [])) ≡ true
    go true h = refl
    go false h = h

seen_found : (y x : List ℕ) (line : ℕ) (es : List EntryTree) → IsFound y es → IsFound y (seen x line es)
seen_found y x line es h = go (is_some (find x es))
  where
    go : (b : Bool) → IsFound y (if b then es else es ++ fresh x line ∷ [])
    go true = h
    go false = found_more y es (fresh x line) h

self_found : (x : List ℕ) (line : ℕ) (es : List EntryTree) → IsFound x (seen x line es)
self_found x line es = go (is_some (find x es)) refl
  where
    go : (b : Bool) → is_some (find x es) ≡ b → IsFound x (if b then es else es ++ fresh x line ∷ [])
    go true e = e
    go false e = last_found x line es

changed_found : (y x : List ℕ) (f : EntryTree → EntryTree) → ((e : EntryTree) → (f e).name ≡ e.name) → (es : List EntryTree) → IsFound y es → IsFound y (changed x f es)
unfolding find
changed_found y x f names [] h = h
changed_found y x f names (e ∷ es) h = go (bytes_eq x e.name) (bytes_eq y e.name) refl h (changed_found y x f names es)
  where
    go : (a b : Bool) → bytes_eq y e.name ≡ b → is_some (if b then Some e else find y es) ≡ true → (IsFound y es → IsFound y (changed x f es)) → is_some (find y (if a then f e ∷ es else e ∷ changed x f es)) ≡ true
    go true true q k ih = ap (λ n. is_some (if bytes_eq y n then Some (f e) else find y es)) (names e) ∙ ap (λ c. is_some (if c then Some (f e) else find y es)) q
    go true false q k ih = ap (λ n. is_some (if bytes_eq y n then Some (f e) else find y es)) (names e) ∙ ap (λ c. is_some (if c then Some (f e) else find y es)) q ∙ k
    go false true q k ih = ap (λ c. is_some (if c then Some e else find y (changed x f es))) q
    go false false q k ih = ap (λ c. is_some (if c then Some e else find y (changed x f es))) q ∙ ih k

said_found : (y x : List ℕ) (w : Said) (es : List EntryTree) → IsFound y es → IsFound y (changed x (with_said w) es)
said_found y x w es h = changed_found y x (with_said w) (same_name w) es h

becomes : (x : List ℕ) (line : ℕ) (es : List EntryTree) → IsFound x es → InCommon x (changed x (with_common line) es)
unfolding find
becomes x line [] h = cc
becomes x line (e ∷ es) h = go (bytes_eq x e.name) refl h (becomes x line es)
  where
    go : (b : Bool) → bytes_eq x e.name ≡ b → is_some (if b then Some e else find x es) ≡ true → (IsFound x es → InCommon x (changed x (with_common line) es)) → of_entry false (λ d. is_some d.common) (find x (if b then with_common line e ∷ es else e ∷ changed x (with_common line) es)) ≡ true
    go true q k ih = ap (λ c. of_entry false (λ d. is_some d.common) (if c then Some (with_common line e) else find x es)) q ∙ or_some e.common line
    go false q k ih = ap (λ c. of_entry false (λ d. is_some d.common) (if c then Some e else find x (changed x (with_common line) es))) q ∙ ih k

-- ---- members

module _ (fs : List Function) where
  -- a member as a COMMON of its own
  alone : EntityTree → List DeclTree
  alone e = decl.common (record { block = []; members = e ∷ [] } ∷ []) ∷ []

  -- a name in COMMON stays there at a member
  pub member_keeps : (y : List ℕ) (es : List EntityTree) (line : ℕ) (t : Told) → InCommon y t.entries → InCommon y (members_told fs es line t).entries
  member_keeps y es line t h = decls_keep (InCommon y) (seen_shared y) (said_shared y) fs (λ s. Some line) (decl.common (record { block = []; members = es } ∷ []) ∷ []) 0 t h

  pub parts_keep : (y : List ℕ) (cs : List CommonTree) (line : ℕ) (t : Told) → InCommon y t.entries → InCommon y (blocks_told fs cs line t).entries
  parts_keep y cs line t h = decls_keep (InCommon y) (seen_shared y) (said_shared y) fs (λ s. Some line) (decl.common cs ∷ []) 0 t h

  pub members_quiet : (es : List EntityTree) (line : ℕ) (t : Told) → (members_told fs es line t).found ≡ None → t.found ≡ None
  members_quiet es line t e = decls_back fs (λ s. Some line) (decl.common (record { block = []; members = es } ∷ []) ∷ []) 0 t e

  pub parts_quiet : (cs : List CommonTree) (line : ℕ) (t : Told) → (blocks_told fs cs line t).found ≡ None → t.found ≡ None
  parts_quiet cs line t e = decls_back fs (λ s. Some line) (decl.common cs ∷ []) 0 t e

  extents_found : (y : List ℕ) (xs : List ExtentTree) (line : ℕ) (es : List EntryTree) → IsFound y es → IsFound y (extents_seen fs xs line es)
  extents_found y [] line es d = d
  extents_found y (x ∷ xs) line es d = extents_found y xs line (extent_seen fs x line es) (one x.high (maybe_seen fs x.low line es) (one x.low es d))
    where
      one : (o : Option ExprTree) (ds : List EntryTree) → IsFound y ds → IsFound y (maybe_seen fs o line ds)
      one None ds h = h
      one (Some e) ds h = expr_keeps (IsFound y) (seen_found y) (said_found y) fs e line ds h

  shaped_found : (y x : List ℕ) (bs : List ExtentTree) (line : ℕ) (t : Told) → IsFound y t.entries → IsFound y (shaped x bs line t).entries
  shaped_found y x [] line t h = h
  shaped_found y x (b ∷ bs) line t h = said_found y x (Shaped line (bound_of b) (map bound_of bs)) t.entries h

  -- the names with those of an entity
  abbrev pub before_common : EntityTree → ℕ → Told → Told
  before_common e line t = shaped e.name e.bounds line (entity_seen fs e line t)

  -- a member was in no COMMON before, and is in one then
  pub record IsNew (e : EntityTree) (line : ℕ) (t : Told) : Type 0 where
    pub before : InCommon e.name t.entries → ⊥
    pub after : InCommon e.name (members_told fs (e ∷ []) line t).entries

  pub member_new : (e : EntityTree) (line : ℕ) (t : Told) → (members_told fs (e ∷ []) line t).found ≡ None → IsNew e line t
  member_new e line t q =
      let u = before_common e line t in
      let new = (none_refused (has_common e.name u.entries) line CommonTwice u.found q).0 in
      record {
        before = λ h. (let still = decls_keep (InCommon e.name) (seen_shared e.name) (said_shared e.name) fs (λ s. Some line) (decl.dimension (e ∷ []) ∷ []) 0 t h in let z : true ≡ false = sym still ∙ new in cc);
        after = becomes e.name line u.entries (shaped_found e.name e.name e.bounds line (entity_seen fs e line t) (extents_found e.name e.bounds line (seen e.name line t.entries) (self_found e.name line t.entries)));
      }
