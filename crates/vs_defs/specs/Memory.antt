-- Which requests need no memory (this project's choice).
--     needs_no_memory request      whether it is never answered out of memory
use Rattle.std.specs.Prelude.{Bool, true, false, None}
use Rattle.vs_defs.specs.Request as request
use Rattle.vs_defs.specs.Request.{Request}

abbrev pub needs_no_memory : Request → Bool
needs_no_memory (request.Ping None) = true
needs_no_memory request.Quit = true
needs_no_memory (request.Exists keys) = true
needs_no_memory (request.Vcard key) = true
needs_no_memory (request.Vdim key) = true
needs_no_memory (request.Vismember key name) = true
needs_no_memory r = false
