-- Regions after a transformer, one after the other.
use Rattle.std.proofs.Common.{◌≡◌, ℕ, ◌+◌, ◌-◌, ◌<◌, zero, suc, List, [], ◌∷◌, ◌++◌, length, take, get_or, map, refl, ap, sym, ◌∙◌, arith}
use Rattle.std.proofs.lemmas.List.{take_more, map-append, length-map}
use Rattle.affine_systems.specs.declared.row.System.{System}
use Rattle.in_out_regions.specs.transformer_algebra.declared.transformer.Transformer.{Transformer}
use Rattle.in_out_regions.specs.transformer_algebra.Transformers.{apply}
use Rattle.in_out_regions.specs.region_sets.declared.region.Region.{Region}
use Rattle.in_out_regions.specs.region_sets.Regions.{remade}
use Rattle.out_regions.specs.Lists.{applied, all_applied}

-- of a region with the pieces of another
pub applied_same : (t : Transformer) (other made r : Region) (ss : List System) → made ≡ applied t other → other.pieces ≡ r.pieces → ss ≡ made.pieces → remade r r.exact ss ≡ applied t r
applied_same t other made r ss m o e =
    ap (λ (us : List System). remade r r.exact us) (e ∙ (ap (λ (q : Region). q.pieces) m ∙ ap (map (apply t)) o))

applied_at : (t : Transformer) (rs : List Region) (i : ℕ) (d q : Region) → i < length rs → get_or (all_applied t rs) i q ≡ applied t (get_or rs i d)
applied_at t [] i d q l = absurd (omega (arith, l))
applied_at t (r ∷ rs) zero d q l = refl
applied_at t (r ∷ rs) (suc i) d q l = applied_at t rs i d q (omega (arith, l))

pub applied_length : (t : Transformer) (rs qs : List Region) → qs ≡ all_applied t rs → length qs ≡ length rs
applied_length t rs qs e = ap length e ∙ length-map rs (applied t)

-- the last of several
pub applied_last : (t : Transformer) (rs qs : List Region) (i : ℕ) (r q : Region) → i < length rs → qs ≡ all_applied t rs → r ≡ get_or rs i r → q ≡ get_or qs i q → q ≡ applied t r
applied_last t rs qs i r q l e f g = g ∙ (ap (λ (us : List Region). get_or us i q) e ∙ (applied_at t rs i r q l ∙ ap (applied t) (sym f)))

-- one region more
pub applied_more : (t : Transformer) (rs out new : List Region) (i : ℕ) (r q : Region) → i < length rs → out ≡ all_applied t (take i rs) → r ≡ get_or rs i r → q ≡ applied t r → new ≡ out ++ q ∷ [] → new ≡ all_applied t (take (i + 1) rs)
applied_more t rs out new i r q l h f e n =
    n
    ∙ (ap (λ (us : List Region). us ++ q ∷ []) h
    ∙ (ap (λ (p : Region). all_applied t (take i rs) ++ p ∷ []) (e ∙ ap (applied t) f)
    ∙ (sym (map-append (applied t) (take i rs) (get_or rs i r ∷ [])) ∙ ap (all_applied t) (sym (take_more rs i r l)))))

pub ruleset last_steps = (applied_last, applied_length)
