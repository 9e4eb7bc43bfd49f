-- Regions that are handed on, before what a transformer describes.
use Rattle.std.proofs.Common.{◌≡◌, Bool, true, false, List, [], ◌∷◌, map, ◌<◌, length, ap, ap₂, refl, sym, ◌∙◌, arith}
use Rattle.std.specs.Prelude.{if◌then◌else◌, not, ◌&&◌}
use Rattle.affine_systems.specs.declared.row.System.{System}
use Rattle.hull_projection.specs.declared.projection.Shadow.{Shadow}
use Rattle.hull_projection.specs.Project.{shadow}
use Rattle.transformers.specs.transformer_algebra.Renaming.{rename_all}
use Rattle.transformers.specs.transformer_algebra.declared.transformer.Transformer.{Transformer}
use Rattle.region_sets.specs.declared.region.Region.{Region}
use Rattle.region_sets.specs.Regions.{region, remade, any_weak, all_exact, systems}
use Rattle.region_sets.specs.Naming.{has_none, named_cells, to_exits}
use Rattle.region_sets.specs.Compose.{put_or_led, put_exits, compose_piece, compose}
use Rattle.region_sets.specs.declared.trimming.Trimmed.{Trimmed}
use Rattle.region_sets.specs.Trim.{trimmed, trim, or_infeasible, trimmed_to}
use Rattle.region_sets.specs.Settled.{may_change, IsFixed}
use Rattle.fx_lists.proofs.Booleans.{and_true}

-- ---- a region that names no changed cell

pass_one : (t : Transformer) (s : System) → not (has_none (named_cells t.cells s)) ≡ false → compose_piece t s ≡ shadow s true
pass_one t s e = go (has_none (named_cells t.cells s)) e
  where
    go : (b : Bool) → not b ≡ false → (if b then shadow s true else put_or_led (put_exits (named_cells t.cells s) t.system.rows (rename_all (to_exits (named_cells t.cells s)) s)) (named_cells t.cells s) t s) ≡ shadow s true
    go true f = refl
    go false f = absurd (cc)

pub pass_step : (t : Transformer) (s : System) (ss all : List System) (b : Bool) → b ≡ not (has_none (named_cells t.cells s)) → b ≡ false →
    (map (compose_piece t) (s ∷ ss) ≡ map (λ (u : System). shadow u true) (s ∷ ss) → map (compose_piece t) all ≡ map (λ (u : System). shadow u true) all) →
    map (compose_piece t) ss ≡ map (λ (u : System). shadow u true) ss → map (compose_piece t) all ≡ map (λ (u : System). shadow u true) all
pass_step t s ss all b d e h k = h (ap₂ (λ (u : Shadow) (us : List Shadow). u ∷ us) (pass_one t s (sym d ∙ e)) k)

all_true : (ss : List System) → all_exact (map (λ (u : System). shadow u true) ss) ≡ true
all_true [] = refl
all_true (s ∷ ss) = all_true ss

all_same : (ss : List System) → systems (map (λ (u : System). shadow u true) ss) ≡ ss
all_same [] = refl
all_same (s ∷ ss) = ap (λ (us : List System). s ∷ us) (all_same ss)

-- one that is trimmed stays
pub passed : (r : Region) (t : Transformer) (b : Bool) → 0 < length r.pieces → may_change true r.pieces ≡ false → IsFixed r → map (compose_piece t) r.pieces ≡ map (λ (u : System). shadow u true) r.pieces → b ≡ (r.exact && not (any_weak r.pieces)) → region r.variable r.kind b r.pieces ≡ compose r t
passed r t b l m a h e =
    ap (λ c. region r.variable r.kind c r.pieces) (e ∙ ap (λ c. c && not (any_weak r.pieces)) (sym (and_true r.exact)))
    ∙ (ap (λ c. remade r c r.pieces) (ap (λ c. r.exact && c) (sym (all_true r.pieces)))
    ∙ (stays (r.exact && all_exact (map (λ (u : System). shadow u true) r.pieces)) r.pieces l (a m)
    ∙ (ap (λ (ss : List System). trimmed_to r (r.exact && all_exact (map (λ (u : System). shadow u true) r.pieces)) ss) (sym (all_same r.pieces))
    ∙ ap (λ (us : List Shadow). trimmed_to r (r.exact && all_exact us) (systems us)) (sym h))))
  where
    stays : (c : Bool) (ss : List System) → 0 < length ss → trimmed ss true ≡ trim ss → remade r c ss ≡ trimmed_to r c ss
    stays c [] n k = absurd (omega (arith, n))
    stays c (s ∷ ss) n k = ap (λ d. remade r d (s ∷ ss)) (sym (and_true c)) ∙ ap (λ (v : Trimmed). remade r (c && v.exact) (or_infeasible v.pieces)) k

pub ruleset passing = (pass_step, passed)
