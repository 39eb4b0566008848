use Rattle.std.proofs.Common.{◌∷◌, refl, sym, ap, ◌∙◌, arith}
use Rattle.der_ber.specs.Broken.{Breaks}
use Rattle.der_ber.proofs.FrontLemmas.{past_end, definite_front}
use Rattle.der_ber.proofs.front.front_with.Goals as goal

pub returns-in-Broken : goal.returns-in-Broken
returns-in-Broken c = Breaks.no_length c.args.tag c.args.others.now refl c.in-Broken.ensures

-- ---- the definite form

pub returns-then-len-after : goal.returns-then-len-after
returns-then-len-after c =
    Breaks.no_length c.args.tag c.args.others.now refl
    (past_end c.args.others.now c.in-Definite.after.now c.in-Definite.len c.in-Definite.ensures c.if-len-after.true)

pub returns-then-not-is_constructed : goal.returns-then-not-is_constructed
returns-then-not-is_constructed c = (
  record {
    number = c.requires.number;
    free = c.requires.free;
    form = sym c.is_constructed.ensures.bit ∙ c.if-not-is_constructed.true;
  },
  definite_front c.args.others.now c.in-Definite.after.now c.in-Definite.len c.in-Definite.ensures c.args.tag
      c.split_at.result.0.now c.split_at.result.1.now c.if-len-after.false c.split_at.ensures.front
      c.split_at.ensures.back,
)

pub returns-then-room-eq0 : goal.returns-then-room-eq0
returns-then-room-eq0 c =
    Breaks.too_deep c.args.tag c.args.others.now refl
    (sym c.is_constructed.ensures.bit ∙ c.if-not-is_constructed.false) (omega arith) refl

pub returns-else-room-eq0 : goal.returns-else-room-eq0
returns-else-room-eq0 c = (
  omega arith,
  record {
    number = c.requires.number;
    free = c.requires.free;
    form = sym c.is_constructed.ensures.bit ∙ c.if-not-is_constructed.false;
  },
  definite_front c.args.others.now c.in-Definite.after.now c.in-Definite.len c.in-Definite.ensures c.args.tag
      c.split_at.result.0.now c.split_at.result.1.now c.if-len-after.false c.split_at.ensures.front
      c.split_at.ensures.back,
)

-- ---- the indefinite form

pub returns-then-not-is_constructed-2 : goal.returns-then-not-is_constructed-2
returns-then-not-is_constructed-2 c =
    Breaks.primitive c.args.tag c.in-Indefinite.after.now (ap (λ l. c.args.tag ∷ l) c.in-Indefinite.ensures)
    (sym c.is_constructed-in-Indefinite.ensures.bit ∙ c.if-not-is_constructed-2.true) refl

pub returns-then-room-eq0-2 : goal.returns-then-room-eq0-2
returns-then-room-eq0-2 c =
    Breaks.too_deep c.args.tag c.args.others.now refl
    (sym c.is_constructed-in-Indefinite.ensures.bit ∙ c.if-not-is_constructed-2.false) (omega arith) refl
