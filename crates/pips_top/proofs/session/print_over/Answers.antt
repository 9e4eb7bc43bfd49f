use Rattle.std.proofs.Common.{◌∙◌, ap, sym, Ok}
use Rattle.pipsmake_base.specs.pipsmake_db.State.{texts_of}
use Rattle.pips_top.specs.Replies.{PrintsWhole, RefusedBy}
use Rattle.pips_top.proofs.PrintedOver.{printed_over, reduced_over}
use Rattle.pips_top.proofs.ReadAlike.{refused_as_text, refused_as_links, on_made}
use Rattle.pips_top.proofs.session.print_over.Goals as goal

pub returns-in-Err : goal.returns-in-Err
returns-in-Err c =
    let d = c.args.db.now in
    let e = c.replace_all.new.self in
    on_made c.refused.result (RefusedBy c.in-Err.refusal) (PrintsWhole c.args.wanted c.args.text.now d e)
    (λ m. refused_as_text c.linked_alike.ensures c.args.wanted c.args.text.now d e c.in-Err.refusal m c.in-Err.ensures.refused) c.refused.ensures

pub returns-in-Err-link : goal.returns-in-Err-link
returns-in-Err-link c =
    let d = c.args.db.now in
    let e = c.link.new.self in
    let replaced = c.in-Ok.ensures.ok in
    on_made c.refused-in-Err-link.result (RefusedBy c.in-Err-link.refusal) (PrintsWhole c.args.wanted c.args.text.now d e)
    (λ m. refused_as_links c.linked_alike.ensures c.args.wanted c.args.text.now (texts_of c.replace_all.new.self) (replaced.read ∙ ap Ok (sym replaced.texts)) d e c.in-Err-link.refusal m c.in-Err-link.ensures.refused)
    c.refused-in-Err-link.ensures

pub returns-then-is_alone : goal.returns-then-is_alone
returns-then-is_alone c =
    printed_over c.accepted_is_split.ensures c.linked_is_accepted.ensures c.making_stays_current.ensures.printed c.tables_ignore_places.ensures c.graphs_ignore_places.ensures c.args.wanted c.args.text.now c.args.db.now c.replace_all.new.self
    c.link.new.self c.print_all.new.db c.in-Ok.field-0 c.in_ok-_made.field-0 c.in-Ok.ensures.ok c.in-Ok-link.ensures.ok c.in-Ok-link.ensures.same c.in_ok-_made.ensures (sym c.is_alone.ensures ∙ c.if-is_alone.true)

pub returns : goal.returns
returns c =
    reduced_over c.accepted_is_split.ensures c.linked_is_accepted.ensures c.making_stays_current.ensures.printed c.tables_ignore_places.ensures c.graphs_ignore_places.ensures c.args.wanted c.args.text.now c.args.db.now c.replace_all.new.self
    c.link.new.self c.print_all.new.db c.in-Ok.field-0 c.in_ok-_made.field-0 c.in-Ok.ensures.ok c.in-Ok-link.ensures.ok c.in-Ok-link.ensures.same c.in_ok-_made.ensures c.in_ok-text.text c.in_ok-text.ensures
