-- What follows from what a call says of its outcome.
use Rattle.std.specs.Prelude.{Result, Ok, Err, OnOk, OnErr, IfOk}
use Rattle.fx_lists.proofs.Options.{if_ok, on_ok}

pub on_err : {T E P Q : Type 0} (r : Result T E) → (P → Q) → OnErr r P → OnErr r Q
on_err (Ok v) f h = h
on_err (Err e) f h = f h
