use Rattle.std.proofs.Common.{append_assoc}
use Rattle.rtsp_credentials.proofs.by_sha256.sha256_secret.Goals as goal

pub returns : goal.returns
returns c = let h = c.sha256_digits.ensures _ (c.update-5.ensures _ (c.update-4.ensures _ (c.update-3.ensures _ (c.update-2.ensures _ (c.update.ensures _ c.new-hasher.ensures))))) in simp append_assoc at h
