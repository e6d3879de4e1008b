-- DATRD. and DATWR.: the words that all jobs share (this project's profile).
use Rattle.std.specs.Prelude.{ℕ, ◌≡◌, ◌<◌, ◌+◌, ◌%◌, length, Some}
use Rattle.word36.specs.declared.sizes.TheConstants.{DATA_WORDS}
use Rattle.word36.specs.Words.{right_half}
use Rattle.job_sched.specs.Tables.{job_at}
use Rattle.job_sched.specs.declared.job.Job.{Job}
use Rattle.uuo_calls.specs.CallState.{ac_of}
use Rattle.uuo_calls.specs.Laws.{Answers, service_in}
use Rattle.uuo_calls.specs.Performed.{World, performed}
use Rattle.uuo_calls.specs.declared.call.MonitorCall.{MonitorCall}
use Rattle.uuo_calls.specs.declared.service.Service.TheVariants.{Datrd, Datwr}

-- DATRD. after DATWR. reads the word that was written. Job n writes the word in AC+1 to the shared word whose number AC has. A job m,
-- the same or another, that reads that shared word later, with no write in between, has the word in its AC.
abbrev pub WhatIsWrittenIsRead : Type 0
WhatIsWrittenIsRead =
    (w later : World) (time at n m : ℕ) (write read : MonitorCall) (j k : Job)
    → job_at w.table.jobs n ≡ Some j → service_in write ≡ Datwr → length w.shared ≡ DATA_WORDS → right_half (ac_of j write.ac) < DATA_WORDS
    → later.shared ≡ (performed w time n write).world.shared
    → job_at later.table.jobs m ≡ Some k → m < length later.table.jobs → service_in read ≡ Datrd → read.ac < length k.regs.ac
    → right_half (ac_of k read.ac) ≡ right_half (ac_of j write.ac)
    → Answers later at m read (ac_of j ((write.ac + 1) % 16))
