-- What can be seen of a machine, of its jobs and of their requests, handed on to crates that show it.
pub use Rattle.lock_queue.specs.declared.request.Request.{Request}
pub use Rattle.machine.specs.Views.{job_view, word_in}
pub use Rattle.machine.specs.declared.view.JobView.{JobView}
pub use Rattle.uuo_calls.specs.Performed.{World}
