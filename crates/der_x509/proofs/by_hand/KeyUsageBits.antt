-- The bits of a set of flags are the bits of its flags.
use Rattle.std.proofs.Common.{◌≡◌, ◌==◌, ℕ, zero, suc, Bool, true, false, List, [], ◌∷◌, get_or, refl, ap, ◌∙◌}
use Rattle.std.specs.List.{list_any}
use Rattle.der_types.specs.BitString.{bit_string_content, bits_of, unless_zeros, without_zeros}
use Rattle.der_types.specs.BitStringLaws.{bits_of-content}
use Rattle.der_x509.specs.declared.by_hand.key_usage_flag.KeyUsageFlag.{KeyUsageFlag}
use Rattle.der_x509.specs.declared.by_hand.key_usage_flag.KeyUsageFlag.TheVariants.{DigitalSignature, ContentCommitment}
use Rattle.der_x509.specs.declared.by_hand.key_usage_flag.KeyUsageFlag.TheVariants.{KeyEncipherment, DataEncipherment}
use Rattle.der_x509.specs.declared.by_hand.key_usage_flag.KeyUsageFlag.TheVariants.{KeyAgreement, KeyCertSign, CrlSign}
use Rattle.der_x509.specs.declared.by_hand.key_usage_flag.KeyUsageFlag.TheVariants.{EncipherOnly, DecipherOnly}
use Rattle.der_x509.specs.contracts.by_hand.key_usage_flag.KeyUsageFlagPartialEq.TheImpl as compared
use Rattle.der_x509.specs.by_hand.KeyUsage.{flag_number, flag_bits, is_listed}

unless_zeros_at : (b : Bool) (bits : List Bool) (k : ℕ)
    → get_or (unless_zeros b bits) k false ≡ get_or (b ∷ bits) k false
unless_zeros_at true bits k = refl
unless_zeros_at false [] zero = refl
unless_zeros_at false [] (suc k) = refl
unless_zeros_at false (b ∷ bits) k = refl

-- a zero that is left out is read as one
without_zeros_at : (bits : List Bool) (k : ℕ) → get_or (without_zeros bits) k false ≡ get_or bits k false
without_zeros_at [] k = refl
without_zeros_at (b ∷ bits) zero = unless_zeros_at b (without_zeros bits) zero
without_zeros_at (b ∷ bits) (suc k) = unless_zeros_at b (without_zeros bits) (suc k) ∙ without_zeros_at bits k

flag_at : (flags : List KeyUsageFlag) (flag : KeyUsageFlag)
    → get_or (flag_bits flags) (flag_number flag) false ≡ is_listed flags flag
flag_at flags DigitalSignature = refl
flag_at flags ContentCommitment = refl
flag_at flags KeyEncipherment = refl
flag_at flags DataEncipherment = refl
flag_at flags KeyAgreement = refl
flag_at flags KeyCertSign = refl
flag_at flags CrlSign = refl
flag_at flags EncipherOnly = refl
flag_at flags DecipherOnly = refl

-- two are equal exactly if their numbers are
equal_by_number : (x y : KeyUsageFlag) → compared.ghosts.eq x y ≡ (flag_number x == flag_number y)
equal_by_number DigitalSignature = elim [ DigitalSignature ↦ refl | _ ↦ refl ]
equal_by_number ContentCommitment = elim [ ContentCommitment ↦ refl | _ ↦ refl ]
equal_by_number KeyEncipherment = elim [ KeyEncipherment ↦ refl | _ ↦ refl ]
equal_by_number DataEncipherment = elim [ DataEncipherment ↦ refl | _ ↦ refl ]
equal_by_number KeyAgreement = elim [ KeyAgreement ↦ refl | _ ↦ refl ]
equal_by_number KeyCertSign = elim [ KeyCertSign ↦ refl | _ ↦ refl ]
equal_by_number CrlSign = elim [ CrlSign ↦ refl | _ ↦ refl ]
equal_by_number EncipherOnly = elim [ EncipherOnly ↦ refl | _ ↦ refl ]
equal_by_number DecipherOnly = elim [ DecipherOnly ↦ refl | _ ↦ refl ]

-- whether the list has a flag that is equal
abbrev has : List KeyUsageFlag → KeyUsageFlag → Bool
has flags flag = list_any (λ one. compared.ghosts.eq one flag) flags

listed_by_number : (flag : KeyUsageFlag) (flags : List KeyUsageFlag) → has flags flag ≡ is_listed flags flag
listed_by_number flag [] = refl
listed_by_number flag (one ∷ flags) = let e = equal_by_number one flag in let f = listed_by_number flag flags in cc

pub bits_listed : (flags : List KeyUsageFlag) {a b c d e f g h i : Bool} → a ≡ has flags DigitalSignature
    → b ≡ has flags ContentCommitment → c ≡ has flags KeyEncipherment → d ≡ has flags DataEncipherment
    → e ≡ has flags KeyAgreement → f ≡ has flags KeyCertSign → g ≡ has flags CrlSign → h ≡ has flags EncipherOnly
    → i ≡ has flags DecipherOnly → a ∷ b ∷ c ∷ d ∷ e ∷ f ∷ g ∷ h ∷ i ∷ [] ≡ flag_bits flags
bits_listed flags p q r s t u v w x =
    let a = listed_by_number DigitalSignature flags in
    let b = listed_by_number ContentCommitment flags in
    let c = listed_by_number KeyEncipherment flags in
    let d = listed_by_number DataEncipherment flags in
    let e = listed_by_number KeyAgreement flags in
    let f = listed_by_number KeyCertSign flags in
    let g = listed_by_number CrlSign flags in
    let h = listed_by_number EncipherOnly flags in
    let i = listed_by_number DecipherOnly flags in
    cc

pub flag_in : (flags : List KeyUsageFlag) {content : List ℕ}
    → content ≡ bit_string_content (without_zeros (flag_bits flags)) → (flag : KeyUsageFlag)
    → get_or (bits_of content) (flag_number flag) false ≡ is_listed flags flag
flag_in flags e flag =
    ap (λ bs. get_or (bits_of bs) (flag_number flag) false) e
    ∙ ap (λ bits. get_or bits (flag_number flag) false) (bits_of-content (without_zeros (flag_bits flags)))
    ∙ without_zeros_at (flag_bits flags) (flag_number flag) ∙ flag_at flags flag
