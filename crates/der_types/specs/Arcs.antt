-- The arcs that an iterator has left.
use Rattle.std.specs.Prelude.{ℕ, List, ◌∷◌}
use Rattle.der_types.specs.Subidentifiers.{numbers_after}
use Rattle.der_types.specs.ObjectIdentifier.{arcs_of}
use Rattle.der_types.specs.declared.arcs.Next.{Next}
use Rattle.der_types.specs.declared.arcs.Next.TheVariants.{FirstTwo, Second, Another}
use Rattle.der_types.specs.declared.arcs.Arcs.{Arcs}

abbrev pub arcs_from : Next → List ℕ → List ℕ
arcs_from FirstTwo bs = arcs_of bs
arcs_from (Second arc) bs = arc ∷ numbers_after 0 bs
arcs_from Another bs = numbers_after 0 bs

abbrev pub arcs_left : Arcs → List ℕ
arcs_left s = arcs_from s.next s.bytes.now
