-- The request that a `Request` stands for.
use Rattle.vs_command.specs.declared.request.Request.{Request}
use Rattle.vs_command.specs.declared.request.Request.TheVariants.{Ping, Quit, Del, Exists, Vadd, Vrem, Vsim, Vcard, Vdim, Vemb, Vlinks, Vinfo, Vgetattr, Vsetattr, Vrandmember, Vismember}
use Rattle.vs_command.specs.declared.request.Search.{Search}
use Rattle.vs_command.specs.declared.request.What.{What}
use Rattle.vs_command.specs.declared.request.What.TheVariants.{Ele, Values}
use Rattle.vs_bits.specs.Requests.{add_of}
use Rattle.vs_defs.specs.Request as model

abbrev pub what_of : What → model.What
what_of (Ele name) = model.Ele name
what_of (Values bits) = model.Values bits

abbrev pub search_of : Search → model.Search
search_of s = record {
  key = s.key;
  what = what_of s.what;
  scores = s.scores;
  attrs = s.attrs;
  count = s.count;
  ef = s.ef;
  filter = s.filter;
  effort = s.effort;
  truth = s.truth;
  nothread = s.nothread;
}

abbrev pub request_of : Request → model.Request
request_of (Ping text) = model.Ping text
request_of Quit = model.Quit
request_of (Del keys) = model.Del keys
request_of (Exists keys) = model.Exists keys
request_of (Vadd add) = model.Vadd (add_of add)
request_of (Vrem key name) = model.Vrem key name
request_of (Vsim search) = model.Vsim (search_of search)
request_of (Vcard key) = model.Vcard key
request_of (Vdim key) = model.Vdim key
request_of (Vemb key name) = model.Vemb key name
request_of (Vlinks key name scores) = model.Vlinks key name scores
request_of (Vinfo key) = model.Vinfo key
request_of (Vgetattr key name) = model.Vgetattr key name
request_of (Vsetattr key name text) = model.Vsetattr key name text
request_of (Vrandmember key count) = model.Vrandmember key count
request_of (Vismember key name) = model.Vismember key name
