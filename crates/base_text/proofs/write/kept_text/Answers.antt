use Rattle.std.proofs.Common.{arith}
use Rattle.base_text.proofs.KeptLaws.{whole_text, bare_text, no_text, whole_back, bare_back}
use Rattle.base_text.proofs.write.kept_text.Goals as goal

pub returns-then-len-limit-clause-text : goal.returns-then-len-limit-clause-text
returns-then-len-limit-clause-text c = whole_text c.args.base.now c.args.limit c.in_ok-whole.whole c.in_ok-whole.ensures.text (omega arith)

pub returns-then-len-limit-clause-reads_back : goal.returns-then-len-limit-clause-reads_back
returns-then-len-limit-clause-reads_back c = λ h. whole_back c.args.base.now c.args.limit c.in_ok-whole.whole c.in_ok-whole.ensures.text (omega arith) (c.in_ok-whole.ensures.reads_back h)

pub returns-then-len-limit-2-clause-text : goal.returns-then-len-limit-2-clause-text
returns-then-len-limit-2-clause-text c =
    bare_text c.args.base.now c.args.limit c.new-none.result c.in_ok-whole.whole c.in_ok-bare.bare c.new-none.ensures c.in_ok-whole.ensures.text (omega arith) c.in_ok-bare.ensures.text (omega arith)

pub returns-then-len-limit-2-clause-reads_back : goal.returns-then-len-limit-2-clause-reads_back
returns-then-len-limit-2-clause-reads_back c =
    bare_back c.args.base.now c.args.limit c.new-none.result c.in_ok-whole.whole c.in_ok-bare.bare c.new-none.ensures c.in_ok-whole.ensures.text (omega arith) c.in_ok-bare.ensures.reads_back

pub returns-clause-text : goal.returns-clause-text
returns-clause-text c =
    no_text c.args.base.now c.args.limit c.new-none.result c.in_ok-whole.whole c.in_ok-bare.bare c.new-none.ensures c.in_ok-whole.ensures.text (omega arith) c.in_ok-bare.ensures.text (omega arith)
