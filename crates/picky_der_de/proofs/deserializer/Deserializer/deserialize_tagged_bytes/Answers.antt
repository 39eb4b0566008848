use Rattle.std.proofs.Common.{◌≡◌, rules}
use Rattle.picky_der_de.proofs.deserializer.Deserializer.deserialize_tagged_bytes.Goals as goal
use Rattle.picky_der_de.proofs.deserializer.Deserializer.deserialize_tagged_bytes.Goals.{then-number-le-MAX_NUMBER+in-Ok-None}
use Rattle.picky_der_de.proofs.deserializer.Deserializer.deserialize_tagged_bytes.Goals.{else-number-le-MAX_NUMBER}

pub returns-clause-err : goal.returns-clause-err
returns-clause-err g c =
    let same : c.if-number-le-MAX_NUMBER.self ≡ c.args.self.now = elim c.if-number-le-MAX_NUMBER.branch [
      | then-number-le-MAX_NUMBER+in-Ok-None w ↦ search rules
      | else-number-le-MAX_NUMBER w ↦ w.self-is
    ] in
    rw (← same) c.fetch_tagged_bytes.ensures.err
