use Rattle.kt_worker.proofs.Requests.{led, not_led}
use Rattle.kt_calls_bench.proofs.asking.serve_if_free.Goals as goal

pub returns-in-Won-clause-served : goal.returns-in-Won-clause-served
returns-in-Won-clause-served g c = led _ _ _ 0 c.requires.free (c.in-Won.ensures {u = tt}).led.1 c.serve.ensures.served

pub returns-in-Busy-clause-served : goal.returns-in-Busy-clause-served
returns-in-Busy-clause-served g c = not_led _ _ 0 _ c.requires.free c.requires.leads (c.in-Busy.ensures {u = tt}).led.1.1
