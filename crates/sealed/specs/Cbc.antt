-- CBC as SP 800-38A defines it, over any block function of blocks of 16 bytes.
use Rattle.std.specs.Prelude.{List, ◌++◌, ℕ, zero, suc, take, drop}
use Rattle.spans.specs.Bytes.{xor_bytes}

-- the n blocks of l enciphered after the chaining block c: C_1 = E(P_1 ⊕ c), and C_j = E(P_j ⊕ C_{j-1}); what lies beyond them stays
unfoldable pub cbc : (List ℕ → List ℕ) → List ℕ → ℕ → List ℕ → List ℕ
cbc E c zero l = l
cbc E c (suc n) l = E (xor_bytes (take 16 l) c) ++ cbc E (E (xor_bytes (take 16 l) c)) n (drop 16 l)

-- the n blocks of l deciphered: P_1 = D(C_1) ⊕ c, and P_j = D(C_j) ⊕ C_{j-1}
unfoldable pub uncbc : (List ℕ → List ℕ) → List ℕ → ℕ → List ℕ → List ℕ
uncbc D c zero l = l
uncbc D c (suc n) l = xor_bytes (D (take 16 l)) c ++ uncbc D (take 16 l) n (drop 16 l)
