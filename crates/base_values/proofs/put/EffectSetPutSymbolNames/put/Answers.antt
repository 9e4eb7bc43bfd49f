use Rattle.std.proofs.Common.{◌∙◌, append_assoc}
use Rattle.std.proofs.lemmas.Result.{on_ok_weaker}
use Rattle.serde_json.proofs.OnLiterals.{serde_json_on_literals}
use Rattle.base_values.proofs.put.EffectSetPutSymbolNames.put.Goals as goal

pub returns : goal.returns
unfolding serde_json_on_literals
returns c =
    on_ok_weaker c.put_stops_and_writes.result (λ e. e ∙ rw (c.in_ok-put_list.ensures, c.as_slice.ensures, c.in_ok-append-2.ensures.ok, c.in_ok-put_flag.ensures, c.in_ok-append.ensures.ok) (simp append_assoc)) c.put_stops_and_writes.ensures
