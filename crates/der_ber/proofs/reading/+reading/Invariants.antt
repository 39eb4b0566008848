use Rattle.std.proofs.Common.{◌+◌, ◌*◌, length}
use Rattle.der_ber.specs.Reading.{IsElementRead}
use Rattle.der_ber.proofs.reading.+reading.Given as goal

abbrev pub decreases-read_elements : goal.decreases-read_elements
decreases-read_elements l = 4 * l.room + 3

abbrev pub decreases-read_element : goal.decreases-read_element
decreases-read_element l = 4 * l.room + 2

abbrev pub decreases-read_front : goal.decreases-read_front
decreases-read_front l = 4 * l.room + 1

abbrev pub decreases-read_inside : goal.decreases-read_inside
decreases-read_inside l = 4 * l.room

-- the elements before the rest were read
abbrev pub invariant-read_elements-loop-after : goal.invariant-read_elements-loop-after
invariant-read_elements-loop-after l =
    IsElementRead l.strings l.room l.bytes l.fn.parts.items l.parts.items l.size l.rest

abbrev pub decreases-read_elements-loop-after : goal.decreases-read_elements-loop-after
decreases-read_elements-loop-after l = length l.rest
