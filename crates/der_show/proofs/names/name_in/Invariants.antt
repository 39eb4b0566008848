use Rattle.std.proofs.Common.{◌≡◌, drop, map}
use Rattle.der_types.specs.Names.{name_in}
use Rattle.der_show.proofs.names.name_in.Given as goal

abbrev pub invariant-loop-known : goal.invariant-loop-known
invariant-loop-known l =
    name_in (map (λ entry. (entry.0.now, entry.1.now)) (drop l.known-index l.table)) l.content
    ≡ name_in (map (λ entry. (entry.0.now, entry.1.now)) l.table) l.content
