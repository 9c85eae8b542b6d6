-- Where no stream failed, the answer was written whole.
use Rattle.std.proofs.Common.{◌≡◌, inl, inr}
use Rattle.std.specs.Prelude.{◌⊎◌}
use Rattle.kt_io.specs.Over.{Over, IsFaulty, IsUnwritten}
use Rattle.kt_io.specs.Ending.{Said, Faults, Sends, EndsWith, SendsWhole}
use Rattle.kt_io.specs.Ending.Sends.{whole, part}
use Rattle.kt_io.specs.Ending.EndsWith.{answered, fails_to_read, lacks_memory}

sent_whole : {X : Type 0} (faults : Faults X) (reply : Said X) (sink : Over) (exit : X) → (IsFaulty sink → ⊥) → Sends faults reply sink exit → SendsWhole reply sink exit
sent_whole faults reply sink exit sound (whole is text) = record { its_exit = is; its_text = text }
sent_whole faults reply sink exit sound (part is faulty text) = absurd (sound faulty)

pub ends_whole : {X : Type 0} (faults : Faults X) (P : Said X → Type 0) (source sink : Over) (exit : X) → (IsFaulty source → ⊥) → (IsFaulty sink → ⊥)
    → EndsWith faults P source sink exit → ((reply : Said X) × P reply × SendsWhole reply sink exit) ⊎ ((exit ≡ faults.no_memory) × IsUnwritten sink)
ends_whole faults P source sink exit reads writes (answered reply holds sent) = inl (reply, holds, sent_whole faults reply sink exit writes sent)
ends_whole faults P source sink exit reads writes (fails_to_read is faulty unwritten) = absurd (reads faulty)
ends_whole faults P source sink exit reads writes (lacks_memory is unwritten) = inr (is, unwritten)
