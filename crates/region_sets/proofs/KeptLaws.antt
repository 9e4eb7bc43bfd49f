-- What holds of each system of a list holds of each that trimming and taking away make of it.
use Rattle.std.proofs.Common.{List, [], ◌∷◌, ◌++◌, reverse, sym, subst}
use Rattle.std.proofs.lemmas.List.{reverse-append}
use Rattle.std.specs.List.{AllByRecursion}
use Rattle.affine_systems.specs.declared.row.System.{System}
use Rattle.affine_systems.specs.Calls.{meet}
use Rattle.affine_systems.proofs.Basics.{if_cases}
use Rattle.hull_projection.specs.Refute.{refuted}
use Rattle.hull_projection.specs.Hull.{hull}
use Rattle.hull_projection.specs.Minus.{apart}
use Rattle.affine_forms.specs.Conditions.{infeasible}
use Rattle.fx_lists.proofs.Lists.{each_append}
use Rattle.transformers.specs.transformer_algebra.Laws.{In, here, there}
use Rattle.region_sets.specs.Within.{within_one}
use Rattle.region_sets.specs.Trim.{live_pieces, sifted, hulls, limited, trim, or_infeasible}
use Rattle.region_sets.specs.Subtract.{less_piece, less_one, less_all}

abbrev pub Are : (System → Type 0) → List System → Type 0
Are P ss = AllByRecursion P ss

pub each_of : (P : System → Type 0) (ss : List System) → Are P ss → (s : System) → In s ss → P s
each_of P [] h s i = elim i [ ]
each_of P (u ∷ ss) h s here = h.0
each_of P (u ∷ ss) h s (there i) = each_of P ss h.1 s i

pub are_each : (P : System → Type 0) (ss : List System) → ((s : System) → In s ss → P s) → Are P ss
are_each P [] f = tt
are_each P (u ∷ ss) f = (f u here, are_each P ss (λ s i. f s (there i)))

module _ (P : System → Type 0) where
  live_are : (ss : List System) → Are P ss → Are P (live_pieces ss)
  live_are [] h = tt
  live_are (s ∷ ss) h = if_cases (Are P) (refuted s.rows) (live_pieces ss) (s ∷ live_pieces ss) (λ e. live_are ss h.1) (λ e. (h.0, live_are ss h.1))

  turned_are : (ss : List System) → Are P ss → Are P (reverse ss)
  turned_are [] h = tt
  turned_are (s ∷ ss) h = subst (Are P) (sym (reverse-append (s ∷ []) ss)) (each_append P (reverse ss) (s ∷ []) (turned_are ss h.1) (h.0, tt))

  sifted_are : (ss ts : List System) → Are P ss → Are P ts → Are P (sifted ss ts)
  sifted_are [] ts h k = k
  sifted_are (s ∷ ss) ts h k = if_cases (Are P) (within_one (ss ++ ts) s) (sifted ss ts) (sifted ss (s ∷ ts)) (λ e. sifted_are ss ts h.1 k) (λ e. sifted_are ss (s ∷ ts) h.1 (h.0, k))

module _ (P : System → Type 0) (kept_hull : (a b : System) → P a → P b → P (hull a b)) where
  hulls_are : (s : System) (ss : List System) → P s → Are P ss → P (hulls s ss)
  hulls_are s [] h k = h
  hulls_are s (t ∷ ts) h k = kept_hull s (hulls t ts) h (hulls_are t ts k.0 k.1)

  limited_are : (ss : List System) → Are P ss → Are P (limited ss).pieces
  limited_are [] h = h
  limited_are (a ∷ []) h = h
  limited_are (a ∷ (b ∷ [])) h = h
  limited_are (a ∷ (b ∷ (c ∷ []))) h = h
  limited_are (a ∷ (b ∷ (c ∷ (d ∷ [])))) h = h
  limited_are (a ∷ (b ∷ (c ∷ (d ∷ (e ∷ ss))))) h = (h.0, (h.1.0, (h.1.1.0, (hulls_are d (e ∷ ss) h.1.1.1.0 h.1.1.1.1, tt))))

  pub trim_are : (ss : List System) → Are P ss → Are P (trim ss).pieces
  trim_are ss h = limited_are (sifted (reverse (live_pieces ss)) []) (sifted_are P (reverse (live_pieces ss)) [] (turned_are P (live_pieces ss) (live_are P ss h)) tt)

  or_are : P infeasible → (ss : List System) → Are P ss → Are P (or_infeasible ss)
  or_are i [] h = (i, tt)
  or_are i (s ∷ ss) h = h

  pub trimmed_are : P infeasible → (ss : List System) → Are P ss → Are P (or_infeasible (trim ss).pieces)
  trimmed_are i ss h = or_are i (trim ss).pieces (trim_are ss h)

module _ (P : System → Type 0) (kept_apart : (a b : System) → P a → P b → Are P (apart a b)) where
  piece_are : (t s : System) → P t → P s → Are P (less_piece t s)
  piece_are t s h k = if_cases (Are P) (refuted (meet s t).rows) (s ∷ []) (apart s t) (λ e. (k, tt)) (λ e. kept_apart s t k h)

  one_are : (t : System) (ss : List System) → P t → Are P ss → Are P (less_one t ss)
  one_are t [] h k = tt
  one_are t (s ∷ ss) h k = each_append P (less_piece t s) (less_one t ss) (piece_are t s h k.0) (one_are t ss h k.1)

  pub less_are : (ss ts : List System) → Are P ss → Are P ts → Are P (less_all ss ts)
  less_are ss [] h k = h
  less_are ss (t ∷ ts) h k = less_are (less_one t ss) ts (one_are t ss k.0 h) k.1
