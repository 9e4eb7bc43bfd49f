-- The line of a region is a comment line that reading drops.
use Rattle.std.proofs.Common.{◌≡◌, ℕ, zero, suc, Bool, true, false, List, [], ◌∷◌, ◌++◌, map, refl, sym, ap, ◌∙◌}
use Rattle.std.specs.Prelude.{nat_eq, codes, slice_index_or}
use Rattle.std.specs.List.{list_any, list_all}
use Rattle.std.proofs.lemmas.List.Folds.{list_any-append}
use Rattle.std.proofs.lemmas.Bool.{and_parts, or_from}
use Rattle.affine_systems.specs.declared.row.System.{System}
use Rattle.affine_systems.specs.Rows.{system}
use Rattle.fixed_form.specs.TextLines.{unless_return, without_returns}
use Rattle.system_text.specs.SystemText.{each_after, system_text, weak_text}
use Rattle.f77_ast.specs.declared.variable.Variable.{Variable}
use Rattle.f77_ast.specs.declared.variable.Variable.TheVariants.{Own, Block, Saved}
use Rattle.laws_programs.specs.roundtrip_programs.Cards.Good.{is_printable}
use Rattle.system_text.specs.Reading.{Bytes}
use Rattle.laws_programs.specs.roundtrip_programs.Lines.{IsShown, AreShown, LinesArePassedOver}
use Rattle.in_out_regions.specs.region_sets.declared.region.Access.{Access}
use Rattle.in_out_regions.specs.region_sets.declared.region.Access.TheVariants.{Read, Write, In, Out}
use Rattle.in_out_regions.specs.region_sets.declared.region.Region.{Region}
use Rattle.in_out_regions.specs.region_sets.Regions.{any_weak}
use Rattle.in_out_regions.specs.region_sets.Written.{access_text, name_text, piece_text, pieces_text, exact_text, region_text}
use Rattle.result_lines.specs.RegionLines.{line_of}
use Rattle.laws_lines.specs.RegionTexts.Laws.{IsShownVariable, RegionLinesArePassedOver}
use Rattle.laws_programs.proofs.RoundtripPrograms.Shown.{not_feed as no_feed}

-- ---- no line feed

pub record IsOneLine (x : Bytes) : Type 0 where
  pub is : list_any (nat_eq 10) x ≡ false

join : (x y : Bytes) → IsOneLine x → IsOneLine y → IsOneLine (x ++ y)
join x y h k = record { is = list_any-append (nat_eq 10) x y ∙ or_from (list_any (nat_eq 10) x) (list_any (nat_eq 10) y) h.is k.is }

shown_is : (x : Bytes) → IsShown x → IsOneLine x
shown_is [] h = record { is = refl }
shown_is (c ∷ cs) h =
    let p = and_parts (is_printable c) (list_all is_printable cs) h in
    record { is = or_from (nat_eq 10 c) (list_any (nat_eq 10) cs) (no_feed c p.0) (shown_is cs p.1).is }

-- ---- its parts

names_at : (names : List Bytes) (k : ℕ) → AreShown names → IsOneLine (slice_index_or names k [])
names_at [] k h = record { is = refl }
names_at (x ∷ xs) zero h = shown_is x h.first
names_at (x ∷ xs) (suc k) h = names_at xs k h.others

variable_is : (names : List Bytes) (v : Variable) → AreShown names → IsShownVariable v → IsOneLine (name_text names v)
variable_is names (Own zero) h k = record { is = refl }
variable_is names (Own (suc n)) h k = names_at names n h
variable_is names (Block b) h k = join (codes "/") (b ++ codes "/") (record { is = refl }) (join b (codes "/") (shown_is b k) (record { is = refl }))
variable_is names (Saved s x) h k = join s (codes ":" ++ x) (shown_is s k.0) (join (codes ":") x (record { is = refl }) (shown_is x k.1))

access_is : (k : Access) → IsOneLine (access_text k)
access_is Read = record { is = refl }
access_is Write = record { is = refl }
access_is In = record { is = refl }
access_is Out = record { is = refl }

flags_are : (exact weak : Bool) → IsOneLine (exact_text exact ++ weak_text weak)
flags_are true true = record { is = refl }
flags_are true false = record { is = refl }
flags_are false true = record { is = refl }
flags_are false false = record { is = refl }

-- the systems of a region are written as those of other lines are
module _ (law : LinesArePassedOver) where
  system_is : (names : List Bytes) (s : System) → AreShown names → IsOneLine (system_text names s)
  system_is names s h = record { is = (law names [] s h).0.comment.one_line }

  others_are : (names : List Bytes) (ss : List System) → AreShown names → IsOneLine (each_after (codes " + ") (map (piece_text names) ss))
  others_are names [] h = record { is = refl }
  others_are names (s ∷ ss) h =
      join (codes " + ") (piece_text names s ++ each_after (codes " + ") (map (piece_text names) ss)) (record { is = refl })
      (join (piece_text names s) (each_after (codes " + ") (map (piece_text names) ss)) (system_is names (system s.rows false) h) (others_are names ss h))

  pieces_are : (names : List Bytes) (ss : List System) → AreShown names → IsOneLine (pieces_text names ss)
  pieces_are names [] h = record { is = refl }
  pieces_are names (s ∷ ss) h = join (piece_text names s) (each_after (codes " + ") (map (piece_text names) ss)) (system_is names (system s.rows false) h) (others_are names ss h)

  region_is : (names : List Bytes) (r : Region) → AreShown names → IsShownVariable r.variable → IsOneLine (region_text names r)
  region_is names r h k =
      let end = exact_text r.exact ++ weak_text (any_weak r.pieces) in
      join (access_text r.kind) (name_text names r.variable ++ (codes " " ++ (pieces_text names r.pieces ++ end))) (access_is r.kind)
      (join (name_text names r.variable) (codes " " ++ (pieces_text names r.pieces ++ end)) (variable_is names r.variable h k)
      (join (codes " ") (pieces_text names r.pieces ++ end) (record { is = refl })
      (join (pieces_text names r.pieces) end (pieces_are names r.pieces h) (flags_are r.exact (any_weak r.pieces)))))

-- ---- no carriage return at the end

-- something that keeps its last character stands at the end
record Stays (x : Bytes) : Type 0 where
  first : ℕ
  more : Bytes
  is : x ≡ first ∷ more
  stays : without_returns x ≡ x

before_it : (x y : Bytes) → Stays y → Stays (x ++ y)
before_it [] y h = h
before_it (c ∷ cs) y h =
    let k = before_it cs y h in
    record {
      first = c;
      more = cs ++ y;
      is = refl;
      stays = ap (unless_return c) (k.stays ∙ k.is) ∙ ap (λ (z : Bytes). c ∷ z) (sym k.is);
    }

end_stays : (exact weak : Bool) → Stays (exact_text exact ++ weak_text weak)
end_stays true true = record { first = 32; more = codes "EXACT WEAK"; is = refl; stays = refl }
end_stays true false = record { first = 32; more = codes "EXACT"; is = refl; stays = refl }
end_stays false true = record { first = 32; more = codes "MAY WEAK"; is = refl; stays = refl }
end_stays false false = record { first = 32; more = codes "MAY"; is = refl; stays = refl }

region_stays : (names : List Bytes) (r : Region) → Stays (line_of names r)
region_stays names r =
    let end = exact_text r.exact ++ weak_text (any_weak r.pieces) in
    before_it (codes "C> ") (region_text names r)
    (before_it (access_text r.kind) (name_text names r.variable ++ (codes " " ++ (pieces_text names r.pieces ++ end)))
    (before_it (name_text names r.variable) (codes " " ++ (pieces_text names r.pieces ++ end))
    (before_it (codes " ") (pieces_text names r.pieces ++ end) (before_it (pieces_text names r.pieces) end (end_stays r.exact (any_weak r.pieces))))))

pub passed_over : LinesArePassedOver → RegionLinesArePassedOver
passed_over law names r h k = record {
  comment = record { comment = refl; one_line = (region_is law names r h k).is; no_return = (region_stays names r).stays };
  dropped = refl;
}
