use Rattle.std.proofs.Common.{List, ℕ, map, ap, ◌∙◌, ◌≡◌}
use Rattle.pipsmake_meaning.specs.Texts.{names_in}
use Rattle.session_texts.specs.Modules.{text_record, source_text}
use Rattle.session_texts.specs.Changes.{replaced}
use Rattle.session_texts.specs.Lists.{all_placed}
use Rattle.session_texts.specs.Places.{places_from, names_after}
use Rattle.session_texts.proofs.Keeping.{kept_after}
use Rattle.session_texts.proofs.sources.Sources.replace.Goals as goal

pub invariant_of-self-2 : goal.invariant_of-self-2
invariant_of-self-2 c =
    let i = c.self.inside in
    let same : c.in_ok-names.names ≡ i.names = c.in_ok-names.ensures ∙ c.names.ensures in
    let us : List (List ℕ) = names_in (map source_text c.args.found) in
    (kept_after i.lists i.names c.self.invariant c.args.found c.requires c.in_ok-places.places c.in_ok-more.more c.places_from.new.names c.put_all.new.self
    (c.in_ok-places.ensures.places ∙ ap (λ fs. places_from c.in_ok-names.names (names_in (map source_text fs))) c.as_slice.ensures ∙ ap (λ ns. places_from ns us) same)
    c.in_ok-more.ensures.texts c.in_ok-more.ensures.trees c.in_ok-more.ensures.tables
    (c.in_ok-places.ensures.names ∙ ap (λ fs. names_after c.in_ok-names.names (names_in (map source_text fs))) c.as_slice.ensures ∙ ap (λ ns. names_after ns us) same)
    (c.in_ok-put_all.ensures ∙ ap (λ ps. all_placed ps c.in_ok-more.more i.lists) c.as_slice-2.ensures)).kept

pub returns-clause-ok : goal.returns-clause-ok
returns-clause-ok c =
    let i = c.self.inside in
    let same : c.in_ok-names.names ≡ i.names = c.in_ok-names.ensures ∙ c.names.ensures in
    let us : List (List ℕ) = names_in (map source_text c.args.found) in
    (kept_after i.lists i.names c.self.invariant c.args.found c.requires c.in_ok-places.places c.in_ok-more.more c.places_from.new.names c.put_all.new.self
    (c.in_ok-places.ensures.places ∙ ap (λ fs. places_from c.in_ok-names.names (names_in (map source_text fs))) c.as_slice.ensures ∙ ap (λ ns. places_from ns us) same)
    c.in_ok-more.ensures.texts c.in_ok-more.ensures.trees c.in_ok-more.ensures.tables
    (c.in_ok-places.ensures.names ∙ ap (λ fs. names_after c.in_ok-names.names (names_in (map source_text fs))) c.as_slice.ensures ∙ ap (λ ns. names_after ns us) same)
    (c.in_ok-put_all.ensures ∙ ap (λ ps. all_placed ps c.in_ok-more.more i.lists) c.as_slice-2.ensures)).same
    ∙ ap (λ ts. replaced ts (map source_text c.args.found)) c.self.view_is
