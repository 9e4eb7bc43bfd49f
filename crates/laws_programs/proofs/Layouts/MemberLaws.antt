-- The members of COMMON blocks by the names that are told: each is in COMMON, and none is there twice.
use Rattle.std.proofs.Common.{◌≡◌, ℕ, zero, suc, Bool, true, false, List, [], ◌∷◌, ◌++◌, map, Some, None, sym, subst, append_assoc}
use Rattle.std.specs.Prelude.{slice_get, flat_map, bytes_eq, if◌then◌else◌}
use Rattle.std.specs.List.{AllByRecursion}
use Rattle.f77_ast.specs.DeclTrees.{EntityTree, CommonTree, DeclTree}
use Rattle.f77_ast.specs.DeclTrees as decl
use Rattle.f77_names.specs.declared.functions.Function.{Function}
use Rattle.f77_names.specs.declared.lines.Sited.TheVariants.{Decl}
use Rattle.f77_names.specs.Lines.{LineTable, line_or}
use Rattle.f77_names.specs.Entries.{EntryTree}
use Rattle.f77_names.specs.Declaring.{Told, members_told, blocks_told, decls_told}
use Rattle.f77_names.specs.Tables.{NameTable}
use Rattle.laws_programs.proofs.SymbolTables.NameRefusals.{decls_back}
use Rattle.laws_programs.proofs.SymbolTables.KeptNames.{decls_keep}
use Rattle.storage_data.specs.Units.{place_of}
use Rattle.storage_layout.specs.Statements.{Has, commons_in, commons, members_in, members, names_in, common_names}
use Rattle.storage_layout.specs.Laws.{AreDistinct}
use Rattle.storage_layout.proofs.RowLaws.{flat_map-append}
use Rattle.laws_programs.proofs.Layouts.CommonNames.{InCommon, seen_shared, said_shared, member_keeps, parts_keep, members_quiet, parts_quiet, IsNew, member_new}

-- ---- none is there twice

module _ (t : NameTable) (fs : List Function) where
  -- what is in COMMON by these names has a place
  abbrev pub Placed : List EntryTree → Type 0
  Placed es = (y : List ℕ) → InCommon y es → (k : ℕ) × (place_of t y ≡ Some k)

  -- names that differ and are not in COMMON so far
  pub record Fresh (ys : List (List ℕ)) (es : List EntryTree) : Type 0 where
    pub distinct : AreDistinct t ys
    pub new : (y : List ℕ) → Has ys y → InCommon y es → ⊥

  nothing_has : (i : ℕ) (y : List ℕ) → slice_get [] i ≡ Some y → ⊥
  nothing_has zero y e = cc
  nothing_has (suc i) y e = cc

  fresh_member : (e : EntityTree) (line : ℕ) (u : Told) (ys : List (List ℕ)) → IsNew fs e line u → (k : ℕ) → place_of t e.name ≡ Some k → Fresh ys (members_told fs (e ∷ []) line u).entries → Fresh (e.name ∷ ys) u.entries
  fresh_member e line u ys is k p h = record { distinct = (k, p, λ i. h.new e.name i is.after, h.distinct); new = λ y i c. go y i.0 i.1 c }
    where
      go : (y : List ℕ) (i : ℕ) → slice_get (e.name ∷ ys) i ≡ Some y → InCommon y u.entries → ⊥
      go y zero q c = let same : e.name ≡ y = cc in is.before (subst (λ z. InCommon z u.entries) (sym same) c)
      go y (suc i) q c = h.new y (i, q) (member_keeps fs y (e ∷ []) line u c)

  members_fresh : (es : List EntityTree) (ys : List (List ℕ)) (line : ℕ) (u : Told) → (members_told fs es line u).found ≡ None → Placed (members_told fs es line u).entries → Fresh ys (members_told fs es line u).entries → Fresh (map (λ e. e.name) es ++ ys) u.entries
  members_fresh [] ys line u quiet placed h = h
  members_fresh (e ∷ es) ys line u quiet placed h =
      let v = members_told fs (e ∷ []) line u in
      let is = member_new fs e line u (members_quiet fs es line v quiet) in
      let at = placed e.name (member_keeps fs e.name es line v is.after) in
      fresh_member e line u (map (λ z. z.name) es ++ ys) is at.0 at.1 (members_fresh es ys line v quiet placed h)

  parts_fresh : (cs : List CommonTree) (ys : List (List ℕ)) (line : ℕ) (u : Told) → (blocks_told fs cs line u).found ≡ None → Placed (blocks_told fs cs line u).entries → Fresh ys (blocks_told fs cs line u).entries → Fresh (flat_map names_in cs ++ ys) u.entries
  parts_fresh [] ys line u quiet placed h = h
  parts_fresh (c ∷ cs) ys line u quiet placed h =
      let v = members_told fs c.members line u in
      subst (λ z. Fresh z u.entries) (sym (append_assoc (names_in c) (flat_map names_in cs) ys))
      (members_fresh c.members (flat_map names_in cs ++ ys) line u (parts_quiet fs cs line v quiet) (λ y k. placed y (parts_keep fs y cs line v k)) (parts_fresh cs ys line v quiet placed h))

  decl_fresh : (at : LineTable) (d : DeclTree) (n : ℕ) (ys : List (List ℕ)) (u : Told) → (decls_told fs at (d ∷ []) n u).found ≡ None → Placed (decls_told fs at (d ∷ []) n u).entries → Fresh ys (decls_told fs at (d ∷ []) n u).entries → Fresh (flat_map names_in (commons_in d) ++ ys) u.entries
  decl_fresh at d n ys u quiet placed h = go d quiet placed h
    where
      plain : (x : DeclTree) → Fresh ys (decls_told fs at (x ∷ []) n u).entries → Fresh ys u.entries
      plain x k = record { distinct = k.distinct; new = λ y i c. k.new y i (decls_keep (InCommon y) (seen_shared y) (said_shared y) fs at (x ∷ []) n u c) }

      go : (x : DeclTree) → (decls_told fs at (x ∷ []) n u).found ≡ None → Placed (decls_told fs at (x ∷ []) n u).entries → Fresh ys (decls_told fs at (x ∷ []) n u).entries → Fresh (flat_map names_in (commons_in x) ++ ys) u.entries
      go (decl.common cs) q p k = parts_fresh cs ys (line_or at (Decl n) 0) u q p k
      go (decl.implicit ps) q p k = plain (decl.implicit ps) k
      go (decl.integer es) q p k = plain (decl.integer es) k
      go (decl.logical es) q p k = plain (decl.logical es) k
      go (decl.dimension es) q p k = plain (decl.dimension es) k
      go (decl.parameter ss) q p k = plain (decl.parameter ss) k
      go (decl.equivalence gs) q p k = plain (decl.equivalence gs) k
      go (decl.save is) q p k = plain (decl.save is) k
      go (decl.initial gs) q p k = plain (decl.initial gs) k

  pub decls_fresh : (at : LineTable) (ds : List DeclTree) (n : ℕ) (u : Told) → (decls_told fs at ds n u).found ≡ None → Placed (decls_told fs at ds n u).entries → Fresh (common_names ds) u.entries
  decls_fresh at [] n u quiet placed = record { distinct = tt; new = λ y i c. nothing_has i.0 y i.1 }
  decls_fresh at (d ∷ ds) n u quiet placed =
      let v = decls_told fs at (d ∷ []) n u in
      subst (λ z. Fresh z u.entries) (sym (flat_map-append names_in (commons_in d) (commons ds)))
      (decl_fresh at d n (common_names ds) u (decls_back fs at ds (suc n) v quiet) (λ y h. placed y (decls_keep (InCommon y) (seen_shared y) (said_shared y) fs at ds (suc n) v h)) (decls_fresh at ds (suc n) v quiet placed))

-- ---- each is in COMMON

abbrev pub AllInCommon : List EntryTree → List (List ℕ) → Type 0
AllInCommon es xs = AllByRecursion (λ y. InCommon y es) xs

pub all_keep : (es gs : List EntryTree) (xs : List (List ℕ)) → ((y : List ℕ) → InCommon y es → InCommon y gs) → AllInCommon es xs → AllInCommon gs xs
all_keep es gs [] keeps h = tt
all_keep es gs (x ∷ xs) keeps h = (keeps x h.0, all_keep es gs xs keeps h.1)

all_joined : (es : List EntryTree) (xs ys : List (List ℕ)) → AllInCommon es xs → AllInCommon es ys → AllInCommon es (xs ++ ys)
all_joined es [] ys h k = k
all_joined es (x ∷ xs) ys h k = (h.0, all_joined es xs ys h.1 k)

module _ (fs : List Function) (b : List ℕ) where
  members_common : (es : List EntityTree) (line : ℕ) (u : Told) → (members_told fs es line u).found ≡ None → AllInCommon (members_told fs es line u).entries (map (λ e. e.name) es)
  members_common [] line u quiet = tt
  members_common (e ∷ es) line u quiet =
      let v = members_told fs (e ∷ []) line u in
      let is = member_new fs e line u (members_quiet fs es line v quiet) in
      (member_keeps fs e.name es line v is.after, members_common es line v quiet)

  part_common : (c : CommonTree) (line : ℕ) (u : Told) → (members_told fs c.members line u).found ≡ None → AllInCommon (members_told fs c.members line u).entries (members_in b c)
  part_common c line u quiet = go (bytes_eq b c.block)
    where
      go : (k : Bool) → AllInCommon (members_told fs c.members line u).entries (if k then map (λ e. e.name) c.members else [])
      go true = members_common c.members line u quiet
      go false = tt

  parts_common : (cs : List CommonTree) (line : ℕ) (u : Told) → (blocks_told fs cs line u).found ≡ None → AllInCommon (blocks_told fs cs line u).entries (flat_map (members_in b) cs)
  parts_common [] line u quiet = tt
  parts_common (c ∷ cs) line u quiet =
      let v = members_told fs c.members line u in
      let last = blocks_told fs cs line v in
      all_joined last.entries (members_in b c) (flat_map (members_in b) cs) (all_keep v.entries last.entries (members_in b c) (λ y h. parts_keep fs y cs line v h) (part_common c line u (parts_quiet fs cs line v quiet))) (parts_common cs line v quiet)

  decl_common : (at : LineTable) (d : DeclTree) (n : ℕ) (u : Told) → (decls_told fs at (d ∷ []) n u).found ≡ None → AllInCommon (decls_told fs at (d ∷ []) n u).entries (flat_map (members_in b) (commons_in d))
  decl_common at (decl.common cs) n u quiet = parts_common cs (line_or at (Decl n) 0) u quiet
  decl_common at (decl.implicit ps) n u quiet = tt
  decl_common at (decl.integer es) n u quiet = tt
  decl_common at (decl.logical es) n u quiet = tt
  decl_common at (decl.dimension es) n u quiet = tt
  decl_common at (decl.parameter ss) n u quiet = tt
  decl_common at (decl.equivalence gs) n u quiet = tt
  decl_common at (decl.save is) n u quiet = tt
  decl_common at (decl.initial gs) n u quiet = tt

  pub decls_common : (at : LineTable) (ds : List DeclTree) (n : ℕ) (u : Told) → (decls_told fs at ds n u).found ≡ None → AllInCommon (decls_told fs at ds n u).entries (members b ds)
  decls_common at [] n u quiet = tt
  decls_common at (d ∷ ds) n u quiet =
      let v = decls_told fs at (d ∷ []) n u in
      let last = decls_told fs at ds (suc n) v in
      subst (AllInCommon last.entries) (sym (flat_map-append (members_in b) (commons_in d) (commons ds)))
      (all_joined last.entries (flat_map (members_in b) (commons_in d)) (members b ds)
      (all_keep v.entries last.entries (flat_map (members_in b) (commons_in d)) (λ y h. decls_keep (InCommon y) (seen_shared y) (said_shared y) fs at ds (suc n) v h) (decl_common at d n u (decls_back fs at ds (suc n) v quiet)))
      (decls_common at ds (suc n) v quiet))
