-- The systems of a region, one behind the other, are read as they were written.
use Rattle.std.proofs.Common.{◌≡◌, List, [], ◌∷◌, ◌++◌, map, Some, refl, sym, ap, ◌∙◌, append_assoc, append-nil}
use Rattle.std.specs.Prelude.{codes}
use Rattle.std.specs.List.{AllByRecursion}
use Rattle.affine_systems.specs.declared.row.Row.{Row}
use Rattle.affine_systems.specs.declared.row.System.{System}
use Rattle.system_text.specs.SystemText.{each_after, rows_text}
use Rattle.system_text.specs.Reading.{Bytes, after}
use Rattle.system_text.proofs.Texts.{IsFree, AreFree, pieces-one, pieces-each}
use Rattle.in_out_regions.specs.region_sets.Written.{piece_text, pieces_text}
use Rattle.laws_lines.specs.RegionTexts.Reading.{read_piece, read_before, read_between, read_pieces}
use Rattle.laws_lines.specs.RegionTexts.Printed.{AreOther, IsOfPlaces}
use Rattle.laws_lines.proofs.RegionTexts.Placed.{rows_free, piece-back}

-- the rows of systems
abbrev pub all_rows : List System → List (List Row)
all_rows ss = map (λ (s : System). s.rows) ss

module _ (names : List Bytes) (end : Bytes) where
  abbrev next : System → Bytes
  next s = codes " + {" ++ rows_text names s.rows

  -- what is behind each brace, and at the end
  behind : List System → List Bytes
  behind [] = end ∷ []
  behind (s ∷ ss) = next s ∷ behind ss

  -- what is behind the brace of the first
  abbrev others : List System → Bytes
  others ss = each_after (codes " + ") (map (piece_text names) ss) ++ end

  others_same : (ss : List System) → 125 ∷ others ss ≡ each_after (125 ∷ []) (behind ss)
  unfolding behind
  others_same [] = ap (λ (x : Bytes). 125 ∷ x) (sym (append-nil end))
  others_same (s ∷ ss) =
      ap (λ (x : Bytes). 125 ∷ (32 ∷ (43 ∷ (32 ∷ (123 ∷ x)))))
      (append_assoc (rows_text names s.rows ++ (125 ∷ [])) (each_after (codes " + ") (map (piece_text names) ss)) end
      ∙ append_assoc (rows_text names s.rows) (125 ∷ []) (others ss)
      ∙ ap (λ (x : Bytes). rows_text names s.rows ++ x) (others_same ss))

  first_same : (s : System) (ss : List System) → pieces_text names (s ∷ ss) ++ end ≡ (codes "{" ++ rows_text names s.rows) ++ each_after (125 ∷ []) (behind ss)
  unfolding behind
  first_same s ss =
      ap (λ (x : Bytes). 123 ∷ x)
      (append_assoc (rows_text names s.rows ++ (125 ∷ [])) (each_after (codes " + ") (map (piece_text names) ss)) end
      ∙ append_assoc (rows_text names s.rows) (125 ∷ []) (others ss)
      ∙ ap (λ (x : Bytes). rows_text names s.rows ++ x) (others_same ss))

  module _ (are : AreOther names) (free : IsFree 125 end) where
    behind_free : (ss : List System) → AllByRecursion (IsOfPlaces names) ss → AreFree 125 (behind ss)
    unfolding behind
    behind_free [] h = (free, tt)
    behind_free (s ∷ ss) h = ((refl, (refl, (refl, (refl, rows_free names s are h.0)))), behind_free ss h.1)

    -- what is read behind a front
    before-back : (front : Bytes) (x : Bytes) (s : System) (ss : List System) → after front x ≡ Some (rows_text names s.rows) → AllByRecursion (IsOfPlaces names) (s ∷ ss)
        → read_before names front x (behind ss) ≡ Some (s.rows ∷ all_rows ss, end)
    unfolding behind
    before-back front x s [] a h =
        let b : read_piece names (rows_text names s.rows) ≡ Some s.rows = piece-back names s are h.0 in
        rw (a, b) refl
    before-back front x s (q ∷ qs) a h =
        let b : read_piece names (rows_text names s.rows) ≡ Some s.rows = piece-back names s are h.0 in
        let c : read_before names (codes " + {") (next q) (behind qs) ≡ Some (q.rows ∷ all_rows qs, end) = before-back (codes " + {") (next q) q qs refl h.1 in
        rw (a, b, c) refl

    pub pieces-back : (ss : List System) → AllByRecursion (IsOfPlaces names) ss → read_pieces names (pieces_text names ss ++ end) ≡ Some (all_rows ss, end)
    pieces-back [] h = ap (read_between names) (pieces-one 125 end free)
    pieces-back (s ∷ ss) h =
        ap (read_pieces names) (first_same s ss)
        ∙ ap (read_between names) (pieces-each 125 (codes "{" ++ rows_text names s.rows) (behind ss) (refl, rows_free names s are h.0) (behind_free ss h.1))
        ∙ before-back (codes "{") (codes "{" ++ rows_text names s.rows) s ss refl h
