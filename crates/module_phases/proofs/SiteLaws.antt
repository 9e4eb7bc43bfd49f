-- Steps of walks over the CALLs of a module, and what holds at a statement.
use Rattle.std.proofs.Common.{◌≡◌, ℕ, zero, ◌-◌, List, ◌++◌, Some, refl, sym, ap, ◌∙◌, append_assoc, append-nil, Vec, Global}
use Rattle.std.specs.Prelude.{bytes_eq}
use Rattle.std.proofs.lemmas.List.Elements.{All-push}
use Rattle.std.specs.Cmp.Lexicographic.{bytes_decides, nat_list_eq_equiv}
use Rattle.std.specs.HashMap.{HashMap, get_by, Updates, UpdatesBy}
use Rattle.std.specs.Map.{KeepsOthers}
use Rattle.std.specs.declared.hash.FoldHasher.{FoldHasher}
use Rattle.std.specs.declared.hash.BuildHasherDefault.{BuildHasherDefault}
use Rattle.affine_systems.specs.declared.row.System.{System}
use Rattle.affine_systems.specs.Given.{Fits}
use Rattle.f77_ast.proofs.PlainlyStmt.{what_calls, list_calls, loop_calls as do_calls, arm_calls as if_calls}
use Rattle.preconditions.specs.call_translation.declared.sites.CallSites.{CallSites}
use Rattle.preconditions.specs.call_translation.Sites.{HoldingSite, sites_in, AllSitesFit}
use Rattle.f77_ast.specs.Shared.{numbered}
use Rattle.f77_ast.specs.declared.results.At.{At}
use Rattle.preconditions.specs.transformers.Lists.{value_at}
use Rattle.preconditions.specs.Statement.{EachFits}
use Rattle.f77_ast.proofs.MapLaws.{same_key}
use Rattle.preconditions.specs.call_translation.NamedSites.{sites_or_none}
use Rattle.preconditions.proofs.Shared.{or-fits}

-- ---- statements

pub ruleset part_calls = (what_calls, append_assoc, append-nil)

pub ruleset statement_calls = (list_calls, append_assoc, append-nil)

pub ruleset body_calls = (do_calls, append_assoc, append-nil)

pub ruleset arm_calls = (if_calls, append_assoc, append-nil)

-- ---- what holds at a statement

pub value-fits : (as' : List (At System)) (n : ℕ) (s : System) → Some s ≡ value_at as' n → EachFits as' → Fits s
value-fits as' n s q h = or-fits (numbered as' n) n as' s refl (sym q) h
