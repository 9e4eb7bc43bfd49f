-- Lists by their first elements, and what holds of outcomes.
use Rattle.std.proofs.Common.{◌≡◌, suc, ◌-◌, ◌<◌, ◌≤◌, List, [], ◌∷◌, length, take, drop, get_or, Result, Ok, Err, OnErr, IfOk, IfErr, refl, sym, ap, ap₂, ◌∙◌, arith}
use Rattle.call_equations.proofs.PositionSteps.{first-rest}
use Rattle.fx_lists.proofs.Options.{if_ok}
use Rattle.fx_lists.proofs.Lists.{none_left as no-more, take_all}

pub on_any : {T E P : Type 0} (r : Result T E) → P → OnErr r P
on_any (Ok v) p = tt
on_any (Err e) p = p

pub if_err : {T E : Type 0} {P Q : E → Type 0} (r : Result T E) → ((e : E) → P e → Q e) → IfErr r P → IfErr r Q
if_err (Ok v) f h = h
if_err (Err e) f h = f e h
