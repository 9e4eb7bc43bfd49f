-- Steps of the loops over symbols, rows and links, and what is handed on may be handed on.
use Rattle.std.proofs.Common.{◌≡◌, List, [], ◌∷◌, ◌++◌, map, add-one, append_assoc, append-nil, ap, sym, ◌∙◌}
use Rattle.affine_systems.proofs.RenameSteps.{normal_small_row}
use Rattle.region_sets.specs.declared.region.Region.{Region}
use Rattle.region_translation.specs.declared.links.CalleeLink.{CalleeLink}
use Rattle.region_translation.specs.Links.{LinkFits, AllLinksFit}
use Rattle.call_translation.proofs.Steps.{given-push}

pub link-push : (ls : List CalleeLink) (l : CalleeLink) → AllLinksFit ls → LinkFits l → AllLinksFit (ls ++ l ∷ [])
link-push [] l h f = (f, tt)
link-push (a ∷ ls) l h f = (h.0, link-push ls l h.1 f)

-- one link more
pub links-step : (f : CalleeLink → Region) (all new : List Region) (rest more : List CalleeLink) (l : CalleeLink) → rest ≡ l ∷ more → new ≡ all ++ f l ∷ [] → new ++ map f more ≡ all ++ map f rest
links-step f all new rest more l e h = ap (λ xs. xs ++ map f more) h ∙ (append_assoc all (f l ∷ []) (map f more) ∙ sym (ap (λ ls. all ++ map f ls) e))

pub ruleset lists = (append_assoc, append-nil)

pub ruleset rows = (given-push, append_assoc, append-nil, add-one)

pub ruleset normal_rows = (given-push, normal_small_row, append_assoc, append-nil)

pub ruleset links = (link-push, append_assoc, append-nil, add-one)
