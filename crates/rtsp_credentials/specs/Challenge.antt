-- What a server asks of whom it doesn't let through (RFC 7616 section 3.3).
use Rattle.std.specs.Prelude.{ℕ, List, [], ◌∷◌, ◌++◌, codes}
use Rattle.rtsp_credentials.specs.declared.algorithm.Algorithm.{Algorithm}
use Rattle.rtsp_credentials.specs.declared.algorithm.Algorithm.TheVariants.{Md5, Sha256}
use Rattle.rtsp_credentials.specs.declared.gate.Gate.{Gate}
use Rattle.rtsp_credentials.specs.declared.refusal.Refusal.{Refusal}
use Rattle.rtsp_credentials.specs.declared.refusal.Refusal.TheVariants as refusals
use Rattle.rtsp_credentials.specs.declared.users.Offer.{Offer}
use Rattle.rtsp_credentials.specs.declared.users.Offer.TheVariants as offers

abbrev pub algorithm_name : Algorithm → List ℕ
algorithm_name Md5 = codes "MD5"
algorithm_name Sha256 = codes "SHA-256"

-- whoever has another nonce than the connection's knows that the password may be right
abbrev pub stale_text : Refusal → List ℕ
stale_text refusals.Stale = codes ", stale=true"
stale_text refusal = []

-- a text in quotes, and what follows
abbrev pub quoted : List ℕ → List ℕ → List ℕ
quoted text behind = 34 ∷ (text ++ 34 ∷ behind)

-- a challenge of these parts
abbrev pub challenge_of : List ℕ → List ℕ → List ℕ → List ℕ → List ℕ
challenge_of realm algorithm stale nonce =
    codes "Digest realm=" ++ quoted realm (codes ", qop=" ++ quoted (codes "auth") (codes ", algorithm=" ++ (algorithm ++ (stale ++ (codes ", nonce=" ++ quoted nonce [])))))

-- the value of a WWW-Authenticate header
abbrev pub challenge_text : List ℕ → Gate → Algorithm → Refusal → List ℕ
challenge_text realm gate algorithm refusal = challenge_of realm (algorithm_name algorithm) (stale_text refusal) gate.nonce

-- the hash functions that are offered, the better one first
abbrev pub algorithms_offered : Offer → List Algorithm
algorithms_offered offers.Md5 = Md5 ∷ []
algorithms_offered offers.Sha256 = Sha256 ∷ []
algorithms_offered offers.Both = Sha256 ∷ Md5 ∷ []
