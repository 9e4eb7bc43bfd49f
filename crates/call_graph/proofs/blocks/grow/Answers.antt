use Rattle.std.proofs.Common.{◌≡◌, ℕ, List, ap, ◌∙◌}
use Rattle.std.specs.Prelude.{unwrap_or}
use Rattle.std.specs.Ordering.{nat_cmp}
use Rattle.std.specs.Cmp.Lexicographic.{slice_cmp}
use Rattle.std.specs.BTreeMap.{is_at}
use Rattle.std.specs.Map.{lookup}
use Rattle.call_graph.proofs.SizeLaws.{grown}
use Rattle.call_graph.proofs.blocks.grow.Goals as goal

pub returns : goal.returns
returns c =
    let x = c.args.name.now in
    let es = c.args.sizes.now.entries in
    let known : c.unwrap_or-known.result ≡ unwrap_or (lookup (is_at (λ l. slice_cmp nat_cmp x l.items)) es) 0 =
    c.unwrap_or-known.ensures ∙ ap (λ o. unwrap_or o 0) (c.copied.ensures ∙ c.get.ensures.value ∙ ap (λ (y : List ℕ). lookup (is_at (λ l. slice_cmp nat_cmp y l.items)) es) c.as_slice-2.ensures) in
    grown x c.in_ok-key.key c.args.size c.unwrap_or-known.result c.max.result es c.insert.new.self.entries (c.in_ok-key.ensures.items ∙ c.as_slice.ensures) known c.max.ensures c.in_ok-insert.ensures.entries
