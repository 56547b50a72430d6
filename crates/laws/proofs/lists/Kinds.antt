-- Events of different calls are different.
use Rattle.dmatypes.specs.declared.call.Call.{Call}
use Rattle.dmatypes.specs.declared.call.Call.TheVariants as calls
use Rattle.dmatypes.specs.declared.reply.Event.{Event}

pub data Kind : Type 0 where
  makes : Kind
  drops : Kind
  attaches : Kind
  detaches : Kind
  maps : Kind
  maps_list : Kind
  unmaps : Kind
  flushes : Kind
  begins : Kind
  steps : Kind
  reaps : Kind
  requests : Kind
  evicts : Kind

abbrev pub kind_of : Call → Kind
kind_of (calls.Domain mode width) = Kind.makes
kind_of (calls.Drop domain) = Kind.drops
kind_of (calls.Attach device domain) = Kind.attaches
kind_of (calls.Detach device) = Kind.detaches
kind_of (calls.Map domain frame pages order rights) = Kind.maps
kind_of (calls.MapList domain order rights segments) = Kind.maps_list
kind_of (calls.Unmap domain address pages) = Kind.unmaps
kind_of (calls.Flush domain) = Kind.flushes
kind_of (calls.Begin domain) = Kind.begins
kind_of calls.Unit = Kind.steps
kind_of (calls.Reap domain number) = Kind.reaps
kind_of (calls.Dma device address access whim) = Kind.requests
kind_of (calls.Evict kind place) = Kind.evicts

abbrev pub kind : Event → Kind
kind e = kind_of e.call
