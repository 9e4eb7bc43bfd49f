-- Where all systems of pairs are refuted, no two iterations meet.
use Rattle.std.proofs.Common.{◌≡◌, ◌⊎◌, ⊎_elim, ℕ, zero, suc, ◌+◌, ◌*◌, ◌-◌, ◌<◌, List, [], ◌∷◌, ◌&&◌, ◌||◌, Bool, true, false, Option, Some, None, refl, sym, ap, ◌∙◌, subst, arith, ℤ, pos, negsuc, neg_ℤ, ◌+ℤ◌, ◌*ℤ◌, nat_eq}
use Rattle.std.specs.Prelude.{if◌then◌else◌}
use Rattle.std.proofs.lemmas.Int.{ints}
use Rattle.affine_systems.specs.declared.row.Var.TheVariants.{Phi}
use Rattle.affine_systems.specs.declared.row.System.{System}
use Rattle.hull_projection.specs.Refute.{refuted}
use Rattle.hull_projection.proofs.RefuteLaws.{refuted_none}
use Rattle.f77_ast.specs.Trees.{LoopTree}
use Rattle.f77_ast.specs.Symbols.{SymbolTree}
use Rattle.f77_ast.specs.declared.variable.Variable.{Variable}
use Rattle.f77_ast.specs.Variables.{same_variable}
use Rattle.preconditions.specs.transformer_algebra.Cells.{has}
use Rattle.preconditions.specs.transformer_algebra.Laws.{In, here, there}
use Rattle.preconditions.specs.transformer_algebra.Claims.{Scene}
use Rattle.preconditions.proofs.TransformerAlgebra.TurnLaws.{kept_chain}
use Rattle.f77_ast.specs.declared.marks.Kinds.{Kinds}
use Rattle.f77_ast.specs.declared.marks.Kinds.TheVariants.{WriteRead, ReadWrite, WriteWrite}
use Rattle.region_sets.specs.declared.range.Range.{Range}
use Rattle.region_sets.specs.declared.region.Access.{Access}
use Rattle.region_sets.specs.declared.region.Access.TheVariants.{Write}
use Rattle.region_sets.specs.declared.region.Region.{Region}
use Rattle.region_sets.specs.Naming.{in_rows}
use Rattle.region_sets.specs.Claims.{AreNumbers, Places, AreByOrder, LiesIn}
use Rattle.region_sets.proofs.DescribedLaws.{stored, moved}
use Rattle.dependence_test.specs.declared.body.LoopBody.{LoopBody}
use Rattle.dependence_test.specs.Kinds.{first_access, second_access, is_first, is_second, is_write, related, may_meet, is_written, is_pair}
use Rattle.dependence_test.specs.Pairs.{pair_system}
use Rattle.dependence_test.specs.Conflicts.{or_else, unless_refuted, kept_piece, kept_pieces, kept_pair, kept_if_pair, kept_beside, kept_among, kept_system, conflict_of, conflict_in}
use Rattle.dependence_test.specs.Claims.{IsRange, Executed, IsWritten, HasOneElement, IsShared, DoNotMeet, DoNotMeetIn, IfNoConflict, IfKept}
use Rattle.dependence_test.proofs.OrderLaws.{Between}
use Rattle.dependence_test.proofs.PairLaws.{Same, pair_holds}
use Rattle.region_sets.proofs.LiveLaws.{IsLive as NotRefuted}
use Rattle.fx_lists.proofs.Numbers.{same_is as nat_same}
use Rattle.fx_lists.proofs.Booleans.{clash as clashes}
use Rattle.f77_ast.proofs.SameLaws.{cmp_if}

-- ---- all are refuted

both_none : (o q : Option System) → or_else o q ≡ None → (o ≡ None) × (q ≡ None)
both_none None q e = (refl, e)
both_none (Some s) q e = cc

is_refuted : (s : System) → unless_refuted s ≡ None → refuted s.rows ≡ true
is_refuted s e = go (refuted s.rows) e
  where
    go : (b : Bool) → (if b then None else Some s) ≡ None → b ≡ true
    go true q = refl
    go false q = cc

piece_refuted : (b : LoopBody) (alike : Bool) (s : System) (rs : List System) (r : System) → kept_piece b alike s rs ≡ None → In r rs → refuted (pair_system b alike s r).rows ≡ true
piece_refuted b alike s [] r e i = elim i [ ]
piece_refuted b alike s (q ∷ rs) r e here = is_refuted (pair_system b alike s r) (both_none (unless_refuted (pair_system b alike s r)) (kept_piece b alike s rs) e).0
piece_refuted b alike s (q ∷ rs) r e (there i) = piece_refuted b alike s rs r (both_none (unless_refuted (pair_system b alike s q)) (kept_piece b alike s rs) e).1 i

pieces_refuted : (b : LoopBody) (alike : Bool) (ss rs : List System) (s r : System) → kept_pieces b alike ss rs ≡ None → In s ss → In r rs → refuted (pair_system b alike s r).rows ≡ true
pieces_refuted b alike [] rs s r e i j = elim i [ ]
pieces_refuted b alike (q ∷ ss) rs s r e here j = piece_refuted b alike s rs r (both_none (kept_piece b alike s rs) (kept_pieces b alike ss rs) e).0 j
pieces_refuted b alike (q ∷ ss) rs s r e (there i) j = pieces_refuted b alike ss rs s r (both_none (kept_piece b alike q rs) (kept_pieces b alike ss rs) e).1 i j

module _ (ss : List SymbolTree) (b : LoopBody) (v : Variable) (k : Kinds) where
  pair_none : (x y : Region) → kept_if_pair ss b v k x y ≡ None → is_pair ss v k x y ≡ true → kept_pair b x y ≡ None
  pair_none x y e p = go (is_pair ss v k x y) p e
    where
      go : (c : Bool) → c ≡ true → (if c then kept_pair b x y else None) ≡ None → kept_pair b x y ≡ None
      go true q e = e
      go false q e = clashes false q refl

  beside_none : (x : Region) (ys : List Region) (y : Region) → kept_beside ss b v k x ys ≡ None → In y ys → is_pair ss v k x y ≡ true → kept_pair b x y ≡ None
  beside_none x [] y e i p = elim i [ ]
  beside_none x (z ∷ ys) y e here p = pair_none x y (both_none (kept_if_pair ss b v k x y) (kept_beside ss b v k x ys) e).0 p
  beside_none x (z ∷ ys) y e (there i) p = beside_none x ys y (both_none (kept_if_pair ss b v k x z) (kept_beside ss b v k x ys) e).1 i p

  among_none : (xs ys : List Region) (x y : Region) → kept_among ss b v k xs ys ≡ None → In x xs → In y ys → is_pair ss v k x y ≡ true → kept_pair b x y ≡ None
  among_none [] ys x y e i j p = elim i [ ]
  among_none (z ∷ xs) ys x y e here j p = beside_none x ys y (both_none (kept_beside ss b v k x ys) (kept_among ss b v k xs ys) e).0 j p
  among_none (z ∷ xs) ys x y e (there i) j p = among_none xs ys x y (both_none (kept_beside ss b v k z ys) (kept_among ss b v k xs ys) e).1 i j p

  all_refuted : (x y : Region) (s r : System) → kept_system ss b v k ≡ None → In x b.regions → In y b.regions → is_pair ss v k x y ≡ true → In s x.pieces → In r y.pieces → refuted (pair_system b (same_variable x.variable y.variable) s r).rows ≡ true
  all_refuted x y s r e i j p is jr = pieces_refuted b (same_variable x.variable y.variable) x.pieces y.pieces s r (among_none b.regions b.regions x y e i j p) is jr

-- ---- variables

-- ---- pairs

first_is : (k : Kinds) (a : Access) → a ≡ first_access k → is_first k a ≡ true
first_is WriteRead a e = subst (λ (z : Access). is_first WriteRead z ≡ true) (sym e) refl
first_is ReadWrite a e = subst (λ (z : Access). is_first ReadWrite z ≡ true) (sym e) refl
first_is WriteWrite a e = subst (λ (z : Access). is_first WriteWrite z ≡ true) (sym e) refl

second_is : (k : Kinds) (a : Access) → a ≡ second_access k → is_second k a ≡ true
second_is WriteRead a e = subst (λ (z : Access). is_second WriteRead z ≡ true) (sym e) refl
second_is ReadWrite a e = subst (λ (z : Access). is_second ReadWrite z ≡ true) (sym e) refl
second_is WriteWrite a e = subst (λ (z : Access). is_second WriteWrite z ≡ true) (sym e) refl

pub write_is : (a : Access) → a ≡ Write → is_write a ≡ true
write_is a e = subst (λ (z : Access). is_write z ≡ true) (sym e) refl

module _ (ss : List SymbolTree) (v : Variable) (k : Kinds) (x y : Region) (ex : x.kind ≡ first_access k) (ey : y.kind ≡ second_access k) where
  first_pair : x.kind ≡ Write → same_variable x.variable v ≡ true → related ss y.variable v ≡ true → is_pair ss v k x y ≡ true
  first_pair w s r = all (is_first k x.kind) (is_second k y.kind) (is_write x.kind) (same_variable x.variable v) (may_meet ss v y) (is_written v y && may_meet ss v x) (first_is k x.kind ex) (second_is k y.kind ey) (write_is x.kind w) s r
    where
      all : (a b c d e f : Bool) → a ≡ true → b ≡ true → c ≡ true → d ≡ true → e ≡ true → ((a && b) && (((c && d) && e) || f)) ≡ true
      all a b c d e f ea eb ec ed ee = rw ea (rw eb (rw ec (rw ed (rw ee refl))))

  second_pair : y.kind ≡ Write → same_variable y.variable v ≡ true → related ss x.variable v ≡ true → is_pair ss v k x y ≡ true
  second_pair w s r = all (is_first k x.kind) (is_second k y.kind) (is_write y.kind) (same_variable y.variable v) (may_meet ss v x) (is_written v x && may_meet ss v y) (first_is k x.kind ex) (second_is k y.kind ey) (write_is y.kind w) s r
    where
      or_true : (f : Bool) → (f || true) ≡ true
      or_true true = refl
      or_true false = refl

      all : (a b c d e f : Bool) → a ≡ true → b ≡ true → c ≡ true → d ≡ true → e ≡ true → ((a && b) && (f || ((c && d) && e))) ≡ true
      all a b c d e f ea eb ec ed ee = rw ea (rw eb (rw ec (rw ed (rw ee (or_true f)))))

-- ---- numbers of iterations

mul_zero : (s : ℤ) → s *ℤ pos 0 ≡ pos 0
mul_zero (pos a) = let e : a * 0 ≡ 0 = omega arith in ap pos e
mul_zero (negsuc a) = let e : suc a * 0 ≡ 0 = omega arith in ap (λ n. neg_ℤ (pos n)) e

mul_suc : (s : ℤ) (d : ℕ) → s *ℤ pos (suc d) ≡ (s *ℤ pos d) +ℤ s
mul_suc (pos a) d = let e : a * suc d ≡ a * d + a = omega arith in ap pos e ∙ (let f : pos (a * d + a) ≡ pos (a * d) +ℤ pos a = omega (arith, ints) in f)
mul_suc (negsuc a) d =
    let e : suc a * suc d ≡ suc a * d + suc a = omega arith in
    ap (λ n. neg_ℤ (pos n)) e ∙ (let f : neg_ℤ (pos (suc a * d + suc a)) ≡ neg_ℤ (pos (suc a * d)) +ℤ negsuc a = omega (arith, ints) in f)

mul_plus : (s : ℤ) (j d : ℕ) → s *ℤ pos (j + d) ≡ (s *ℤ pos j) +ℤ (s *ℤ pos d)
mul_plus s j zero = let e : j + 0 ≡ j = omega arith in let z = mul_zero s in ap (λ n. s *ℤ pos n) e ∙ (omega (arith, z, ints))
mul_plus s j (suc d) =
    let e : j + suc d ≡ suc (j + d) = omega arith in
    let z = mul_suc s (j + d) in
    let q = mul_suc s d in
    let i = mul_plus s j d in
    ap (λ n. s *ℤ pos n) e ∙ (omega (arith, z, q, i, ints))

-- ---- two iterations

module _ (ss : List SymbolTree) (b : LoopBody) (v : Variable) (ks : Kinds) (free : kept_system ss b v ks ≡ None) (m : Scene) (at : Places) (by : AreByOrder at) (g : Range) (range : IsRange b g) (x : ℕ → ℤ) (first last : ℤ) (j k : ℕ) (less : j < k) (p : Executed m at b g x first last j) (q : Executed m at b g x first last k) (u : ℕ) (one : HasOneElement at b.regions u) (shared : IsShared ss at u) where
  -- a cell that no iteration changes has the number that it had before the DO
  unchanged : (i : ℕ) (e : Executed m at b g x first last i) (c : ℕ) → m.tracked c ≡ true → has b.cells c ≡ false → e.begin (m.unit c) ≡ x (m.unit c)
  unchanged i e c tr off = (kept_chain m g.turn e.iteration.begin e.begin e.iteration.chain).cells c tr (range.cells c off) ∙ e.iteration.wrote.cells c tr (apart (nat_eq g.index c) refl)
    where
      apart : (t : Bool) → nat_eq g.index c ≡ t → t ≡ false
      apart true h = clashes (has b.cells c) (subst (λ (d : ℕ). has b.cells d ≡ true) (sym range.index ∙ nat_same g.index c h) range.own) off
      apart false h = refl

  same_cells : Same m b p.begin q.begin
  same_cells c tr off = unchanged k q c tr off ∙ sym (unchanged j p c tr off)

  -- the numbers of all cells at the second, with those of the first where nothing changes
  later_numbers : AreNumbers m q.begin (moved m b.cells q.begin (stored m p.begin))
  later_numbers c t = go (has b.cells c) refl
    where
      go : (h : Bool) → has b.cells c ≡ h → (if h then q.begin (m.unit c) else p.begin (m.unit c)) ≡ q.begin (m.unit c)
      go true e = refl
      go false e = sym (same_cells c t e)

  index_of : (i : ℕ) (e : Executed m at b g x first last i) → e.begin (m.unit b.index) ≡ e.number
  index_of i e = ap (λ (c : ℕ). e.begin (m.unit c)) (sym range.index) ∙ e.iteration.number

  between : Between (p.begin (m.unit b.index)) (q.begin (m.unit b.index)) b.step
  between = go b.step range.step
    where
      go : (st : Option ℤ) → g.step ≡ st → Between (p.begin (m.unit b.index)) (q.begin (m.unit b.index)) st
      go None e = tt
      go (Some s) e =
          let np = (p.iteration.range s e).place in
          let nq = (q.iteration.range s e).place in
          let ip = index_of j p in
          let iq = index_of k q in
          let d : j + (k - j) ≡ k = omega (arith, less) in
          let mp : s *ℤ pos k ≡ (s *ℤ pos j) +ℤ (s *ℤ pos (k - j)) = ap (λ n. s *ℤ pos n) (sym d) ∙ mul_plus s j (k - j) in
          record { steps = k - j; some = omega (arith, less); is_it = omega (arith, ints, np, nq, ip, iq, mp) }

  abbrev In_regions : Region → Type 0
  In_regions r = In r b.regions

  -- no unit lies in both regions of a pair
  apart : (y z : Region) → In_regions y → In_regions z → is_pair ss v ks y z ≡ true → LiesIn m (at y.variable) y p.begin u → LiesIn m (at z.variable) z q.begin u → ⊥
  apart y z iy iz pair ly lz =
      let dy = ly.described (stored m p.begin) (λ c t. refl) in
      let dz = lz.described (moved m b.cells q.begin (stored m p.begin)) later_numbers in
      let point = pair_holds m b p.begin q.begin p.head q.head same_cells range.own dy.piece dz.piece ly.phi lz.phi dy.holds dz.holds between (same_variable y.variable z.variable) (alike dz.piece dz.is_one) in
      refuted_none point.0 (pair_system b (same_variable y.variable z.variable) dy.piece dz.piece).rows (all_refuted ss b v ks y z dy.piece dz.piece free iy iz pair dy.is_one dz.is_one) point.1
    where
      alike : (s : System) → In s z.pieces → same_variable y.variable z.variable ≡ true → (i : ℕ) → in_rows (Phi i) s.rows ≡ true → ly.phi i ≡ lz.phi i
      alike s is e i named =
          let there' : at z.variable ly.phi ≡ Some u = subst (λ (f : (ℕ → ℤ) → Option ℕ). f ly.phi ≡ Some u) (by y.variable z.variable (cmp_if y.variable z.variable e)) ly.there in
          one z iz ly.phi lz.phi there' lz.there s is i named

  related_to : (r : Region) (w : ℕ → ℤ) (z : Region) (c : ℕ → ℤ) → LiesIn m (at z.variable) z w u → LiesIn m (at r.variable) r c u → same_variable r.variable v ≡ true → related ss z.variable v ≡ true
  related_to r w z c lz lr e =
      let there' : at v lr.phi ≡ Some u = subst (λ (f : (ℕ → ℤ) → Option ℕ). f lr.phi ≡ Some u) (by r.variable v (cmp_if r.variable v e)) lr.there in
      shared z.variable v lz.phi lr.phi lz.there there'

  pub do_not_meet : p.accesses (first_access ks) u ≡ true → q.accesses (second_access ks) u ≡ true → ((first_access ks ≡ Write) × IsWritten m at b.regions v p.begin u) ⊎ ((second_access ks ≡ Write) × IsWritten m at b.regions v q.begin u) → ⊥
  do_not_meet tp tq h = ⊎_elim
      (λ f.
      let w = f.1 in
      let z = q.contained (second_access ks) u tq in
      apart w.region z.region w.is_one z.is_one (first_pair ss v ks w.region z.region (w.kind ∙ sym f.0) z.kind w.kind w.variable (related_to w.region q.begin z.region p.begin z.lies w.lies w.variable)) w.lies z.lies)
      (λ f.
      let w = f.1 in
      let y = p.contained (first_access ks) u tp in
      apart y.region w.region y.is_one w.is_one (second_pair ss v ks y.region w.region y.kind (w.kind ∙ sym f.0) w.kind w.variable (related_to w.region p.begin y.region q.begin y.lies w.lies w.variable)) y.lies w.lies)
      h

pub no_meeting : (ss : List SymbolTree) (b : LoopBody) (v : Variable) (ks : Kinds) → kept_system ss b v ks ≡ None → DoNotMeet ss b v ks
no_meeting ss b v ks free m at by g range x first last j k less p q u one shared tp tq h = do_not_meet ss b v ks free m at by g range x first last j k less p q u one shared tp tq h

-- ---- answers

none_sound : (ss : List SymbolTree) (b : LoopBody) (v : Variable) (ks : Kinds) (o : Option System) → kept_system ss b v ks ≡ o → IfNoConflict (conflict_of o) (DoNotMeet ss b v ks)
none_sound ss b v ks None e = no_meeting ss b v ks e
none_sound ss b v ks (Some s) e = tt

pub answer_sound : (ss : List SymbolTree) (b : LoopBody) (v : Variable) (ks : Kinds) → IfNoConflict (conflict_of (kept_system ss b v ks)) (DoNotMeet ss b v ks)
answer_sound ss b v ks = none_sound ss b v ks (kept_system ss b v ks) refl

pub loop_sound : (ss : List SymbolTree) (v : Variable) (ks : Kinds) (body : LoopTree → LoopBody) (o : Option LoopTree) → IfNoConflict (conflict_in ss v ks body o) (DoNotMeetIn ss v ks body o)
loop_sound ss v ks body None = tt
loop_sound ss v ks body (Some l) = answer_sound ss (body l) v ks

-- ---- what is kept is not refuted

abbrev Open : Option System → Type 0
Open o = IfKept (conflict_of o) NotRefuted

open_else : (o q : Option System) → Open o → Open q → Open (or_else o q)
open_else None q h k = k
open_else (Some s) q h k = h

open_one : (s : System) → Open (unless_refuted s)
open_one s = go (refuted s.rows) refl
  where
    go : (b : Bool) → refuted s.rows ≡ b → Open (if b then None else Some s)
    go true e = tt
    go false e = e

open_piece : (b : LoopBody) (alike : Bool) (s : System) (rs : List System) → Open (kept_piece b alike s rs)
open_piece b alike s [] = tt
open_piece b alike s (r ∷ rs) = open_else (unless_refuted (pair_system b alike s r)) (kept_piece b alike s rs) (open_one (pair_system b alike s r)) (open_piece b alike s rs)

open_pieces : (b : LoopBody) (alike : Bool) (ss rs : List System) → Open (kept_pieces b alike ss rs)
open_pieces b alike [] rs = tt
open_pieces b alike (s ∷ ss) rs = open_else (kept_piece b alike s rs) (kept_pieces b alike ss rs) (open_piece b alike s rs) (open_pieces b alike ss rs)

module _ (ss : List SymbolTree) (b : LoopBody) (v : Variable) (k : Kinds) where
  open_if_pair : (x y : Region) → Open (kept_if_pair ss b v k x y)
  open_if_pair x y = go (is_pair ss v k x y)
    where
      go : (c : Bool) → Open (if c then kept_pair b x y else None)
      go true = open_pieces b (same_variable x.variable y.variable) x.pieces y.pieces
      go false = tt

  open_beside : (x : Region) (ys : List Region) → Open (kept_beside ss b v k x ys)
  open_beside x [] = tt
  open_beside x (y ∷ ys) = open_else (kept_if_pair ss b v k x y) (kept_beside ss b v k x ys) (open_if_pair x y) (open_beside x ys)

  open_among : (xs ys : List Region) → Open (kept_among ss b v k xs ys)
  open_among [] ys = tt
  open_among (x ∷ xs) ys = open_else (kept_beside ss b v k x ys) (kept_among ss b v k xs ys) (open_beside x ys) (open_among xs ys)

  pub answer_open : IfKept (conflict_of (kept_system ss b v k)) NotRefuted
  answer_open = open_among b.regions b.regions

pub loop_open : (ss : List SymbolTree) (v : Variable) (ks : Kinds) (body : LoopTree → LoopBody) (o : Option LoopTree) → IfKept (conflict_in ss v ks body o) NotRefuted
loop_open ss v ks body None = tt
loop_open ss v ks body (Some l) = answer_open ss (body l) v ks
