-- The bits of segments.
use Rattle.std.proofs.Common.{◌≡◌, ℕ, ◌≤◌, List, [], ◌∷◌, ◌++◌, length, refl, sym, ap, subst, ◌∙◌, arith}
use Rattle.std.proofs.Common.{append_assoc, append-nil, length-append}
use Rattle.std.specs.List.{concat}
use Rattle.der_ber.specs.Strings.{most_unused, BeginsBits, AreBits, IsJoined}

pub concat-append : (xs ys : List (List ℕ)) → concat (xs ++ ys) ≡ concat xs ++ concat ys
concat-append [] ys = refl
concat-append (x ∷ xs) ys = ap (λ l. x ++ l) (concat-append xs ys) ∙ sym (append_assoc x (concat xs) (concat ys))

-- one more, after others without unused bits
pub bits_after : (xs : List (List ℕ)) (b c : List ℕ) (u : ℕ) → AreBits xs 0 b → u ≤ most_unused c
    → AreBits (xs ++ ((u ∷ c) ∷ [])) u (b ++ c)
bits_after [] b c u h few =
    subst (λ l. AreBits ((u ∷ c) ∷ []) u (l ++ c)) (sym h.1) (BeginsBits.last refl refl few)
bits_after (x ∷ xs) b c u (BeginsBits.last e f few') few =
    BeginsBits.more b c f refl
    (subst (λ l. AreBits (l ++ ((u ∷ c) ∷ [])) u c) (sym e) (BeginsBits.last refl refl few))
bits_after (x ∷ xs) b c u (BeginsBits.more first rest f g others) few =
    BeginsBits.more first (rest ++ c) f (ap (λ l. l ++ c) g ∙ append_assoc first rest c)
    (bits_after xs rest c u others few)

some_others : (xs ys : List (List ℕ)) (s : List ℕ) → xs ++ (s ∷ ys) ≡ [] → ⊥
some_others xs ys s e = omega (arith, ap length e, length-append xs (s ∷ ys))

-- none is after unused bits
pub bits_ended : (xs ys : List (List ℕ)) (s : List ℕ) (v u : ℕ) (c b : List ℕ) → AreBits xs v c → (v ≡ 0 → ⊥)
    → AreBits (xs ++ (s ∷ ys)) u b → ⊥
bits_ended [] ys s v u c b h some k = some h.0
bits_ended (x ∷ xs) ys s v u c b (BeginsBits.last e f few) some (BeginsBits.last e' f' few') = some_others xs ys s e'
bits_ended (x ∷ xs) ys s v u c b (BeginsBits.last e f few) some (BeginsBits.more first rest f' g others) =
    let same : v ∷ c ≡ 0x00 ∷ first = sym f ∙ f' in
    some (cc)
bits_ended (x ∷ xs) ys s v u c b (BeginsBits.more first rest f g others) some (BeginsBits.last e' f' few') =
    some_others xs ys s e'
bits_ended (x ∷ xs) ys s v u c b (BeginsBits.more first rest f g others) some
    (BeginsBits.more first' rest' f' g' others') =
    bits_ended xs ys s v u rest rest' others some others'

-- the content of a primitive bit string
pub record IsGood (segment : List ℕ) : Type 0 where
  pub unused : ℕ
  pub bits : List ℕ
  pub is : segment ≡ unused ∷ bits
  pub few : unused ≤ most_unused bits

pub bits_good : (xs ys : List (List ℕ)) (s : List ℕ) (u : ℕ) (b : List ℕ) → AreBits (xs ++ (s ∷ ys)) u b → IsGood s
bits_good [] ys s u b (BeginsBits.last e f few) = record { unused = u; bits = b; is = f; few = few }
bits_good [] ys s u b (BeginsBits.more first rest f g others) =
    record { unused = 0; bits = first; is = f; few = omega arith }
bits_good (x ∷ xs) ys s u b (BeginsBits.last e f few) = absurd (some_others xs ys s e)
bits_good (x ∷ xs) ys s u b (BeginsBits.more first rest f g others) = bits_good xs ys s u rest others

-- ---- one value

no_others : (xs : List (List ℕ)) (u : ℕ) (b : List ℕ) → xs ≡ [] → AreBits xs u b → (u ≡ 0) × (b ≡ [])
no_others xs u b e h = subst (λ l. AreBits l u b) e h

same_bits : (xs : List (List ℕ)) (u v : ℕ) (b c : List ℕ) → AreBits xs u b → AreBits xs v c → (u ≡ v) × (b ≡ c)
same_bits [] u v b c h k = (h.0 ∙ sym k.0, h.1 ∙ sym k.1)
same_bits (x ∷ xs) u v b c (BeginsBits.last e f few) (BeginsBits.last e' f' few') =
    let same : u ∷ b ≡ v ∷ c = sym f ∙ f' in
    (cc, cc)
same_bits (x ∷ xs) u v b c (BeginsBits.last e f few) (BeginsBits.more first rest f' g others) =
    let same : u ∷ b ≡ 0x00 ∷ first = sym f ∙ f' in
    let unused : u ≡ 0 = cc in
    let bits : b ≡ first = cc in
    let (none, nothing) = no_others xs v rest e others in
    (unused ∙ sym none, bits ∙ sym (append-nil first) ∙ ap (λ l. first ++ l) (sym nothing) ∙ sym g)
same_bits (x ∷ xs) u v b c (BeginsBits.more first rest f g others) (BeginsBits.last e f' few) =
    let same : v ∷ c ≡ 0x00 ∷ first = sym f' ∙ f in
    let unused : v ≡ 0 = cc in
    let bits : c ≡ first = cc in
    let (none, nothing) = no_others xs u rest e others in
    (none ∙ sym unused, g ∙ ap (λ l. first ++ l) nothing ∙ append-nil first ∙ sym bits)
same_bits (x ∷ xs) u v b c (BeginsBits.more first rest f g others) (BeginsBits.more first' rest' f' g' others') =
    let same : 0x00 ∷ first ≡ 0x00 ∷ first' = sym f ∙ f' in
    let firsts : first ≡ first' = cc in
    let (unused, rests) = same_bits xs u v rest rest' others others' in
    (unused, g ∙ ap (λ l. l ++ rest) firsts ∙ ap (λ l. first' ++ l) rests ∙ sym g')

pub same_joined : (s : ℕ) (xs : List (List ℕ)) (c d : List ℕ) → IsJoined s xs c → IsJoined s xs d → c ≡ d
same_joined s xs c d (IsJoined.bits e h) (IsJoined.bits f k) =
    let (unused, bits) = same_bits xs h.unused k.unused h.bits k.bits h.are_bits k.are_bits in
    h.is ∙ ap (λ u. u ∷ h.bits) unused ∙ ap (λ l. k.unused ∷ l) bits ∙ sym k.is
same_joined s xs c d (IsJoined.bits e h) (IsJoined.octets other k) = absurd (other e)
same_joined s xs c d (IsJoined.octets other h) (IsJoined.bits f k) = absurd (other f)
same_joined s xs c d (IsJoined.octets other h) (IsJoined.octets more k) = h ∙ sym k
