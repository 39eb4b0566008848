use Rattle.std.proofs.Common.{sym, arith}
use Rattle.der_ber.proofs.FrontLemmas.{short_split, reserved_length, cut_length, long_split, wide_length}
use Rattle.der_ber.proofs.lengths.split_length.Goals as goal

pub returns-then-first-lt128 : goal.returns-then-first-lt128
returns-then-first-lt128 c =
    short_split c.args.bytes.now c.from.result c.from.ensures c.in-len1-up.len_at_least (omega arith)

pub returns-then-first-2 : goal.returns-then-first-2
returns-then-first-2 c = reserved_length c.args.bytes.now (sym c.if-first-2.true) c.in-len1-up.len_at_least

pub returns-then-count-others : goal.returns-then-count-others
returns-then-count-others c =
    cut_length c.args.bytes.now c.from-count.result (omega arith) c.in-len1-up.len_at_least (omega arith) (omega arith)
    c.if-count-others.true

pub returns-in-Some : goal.returns-in-Some
returns-in-Some c =
    long_split c.args.bytes.now c.from-count.result (omega arith) c.in-len1-up.len_at_least (omega arith) (omega arith)
    c.split_at.result.0.now c.split_at.result.1.now c.if-count-others.false c.split_at.ensures.front
    c.split_at.ensures.back c.in-Some.len c.in-Some.ensures

pub returns-in-None : goal.returns-in-None
returns-in-None c =
    wide_length c.args.bytes.now c.from-count.result (omega arith) c.in-len1-up.len_at_least (omega arith) (omega arith)
    c.split_at.result.0.now c.split_at.result.1.now c.if-count-others.false c.split_at.ensures.front
    c.split_at.ensures.back (omega arith) c.in-None.ensures
