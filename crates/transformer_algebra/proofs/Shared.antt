-- Lemmas that several crates use.
use Rattle.std.proofs.Common.{List, [], ◌++◌, ◌-◌, ◌∷◌}
use Rattle.affine_systems.specs.Given.{Fits}
use Rattle.transformer_algebra.specs.Transformers.{AllFit}
use Rattle.transformer_algebra.specs.declared.transformer.Transformer.{Transformer}

pub fits-push : (ts : List Transformer) (t : Transformer) → AllFit ts → Fits t.system → AllFit (ts ++ t ∷ [])
fits-push [] t h f = (f, tt)
fits-push (s ∷ ts) t h f = (h.0, fits-push ts t h.1 f)
