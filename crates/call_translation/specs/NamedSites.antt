-- The CALLs of a program by the name of the module that they call.
use Rattle.std.specs.Prelude.{ℕ, List, [], Option, Some, None, bytes_eq}
use Rattle.std.specs.HashMap.{get_by}
use Rattle.call_translation.specs.declared.sites.CallSites.{CallSites}
use Rattle.call_translation.specs.declared.named_sites.NamedSites.{NamedSites}
use Rattle.call_translation.specs.Sites.{SiteTree, sites_in}

abbrev pub sites_or_none : {T : Type 0} → Option (CallSites T) → List (SiteTree T)
sites_or_none None = []
sites_or_none (Some cs) = sites_in cs

-- those of the module of a name
abbrev pub sites_for : {T : Type 0} → NamedSites T → List ℕ → List (SiteTree T)
sites_for ss x = sites_or_none (get_by (λ k. bytes_eq x k.items) ss.by_name)
