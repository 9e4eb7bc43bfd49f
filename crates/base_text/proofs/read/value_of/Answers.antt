use Rattle.std.proofs.Common.{sym, ap, ◌∙◌}
use Rattle.std.proofs.lemmas.Bool.{false≢true}
use Rattle.serde_json.specs.View.{view}
use Rattle.base_text.specs.Read.{data_of}
use Rattle.base_text.proofs.Texts.{data_some, data_none}
use Rattle.base_text.proofs.read.value_of.Goals as goal

pub returns-in-Ok : goal.returns-in-Ok
returns-in-Ok c = ap data_of (sym c.as_slice.ensures) ∙ data_some c.as_slice.result.now (view c.in-Ok.value) c.in-Ok.ensures.ok.0 c.in-Ok.ensures.ok.1

pub returns-else-is_memory : goal.returns-else-is_memory
returns-else-is_memory c =
    ap data_of (sym c.as_slice.ensures) ∙ data_none c.as_slice.result.now (c.in-Err.ensures.err (λ m. false≢true (sym c.if-is_memory.false ∙ c.is_memory.ensures.1 m)))
